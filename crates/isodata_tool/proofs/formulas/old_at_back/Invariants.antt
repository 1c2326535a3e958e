use Rattle.std.proofs.Common.{◌≡◌, map, take}
use Rattle.isodata_tool.specs.Carried.{with_back}
use Rattle.isodata_tool.proofs.formulas.old_at_back.Given as goal

abbrev pub invariant-loop-formal : goal.invariant-loop-formal
invariant-loop-formal l = l.args ≡ map (with_back l.maps) (take l.formal-index l.formal-items)
