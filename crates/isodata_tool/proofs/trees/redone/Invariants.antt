use Rattle.std.proofs.Common.{◌≡◌, map, take}
use Rattle.isodata_tool.specs.Carried.{find_map}
use Rattle.isodata_tool.specs.Proofs.{redone}
use Rattle.isodata_tool.proofs.trees.redone.Given as goal

abbrev pub invariant-loop-formal : goal.invariant-loop-formal
invariant-loop-formal l = l.proofs ≡ map (λ x. redone (find_map l.parts.maps.now x) x) (take l.formal-index l.formal-items)
