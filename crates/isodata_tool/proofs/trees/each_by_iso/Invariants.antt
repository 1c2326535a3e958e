use Rattle.std.proofs.Common.{◌≡◌, map, take}
use Rattle.terms.specs.Terms.{Var}
use Rattle.isodata_tool.specs.Proofs.{by_iso}
use Rattle.isodata_tool.proofs.trees.each_by_iso.Given as goal

abbrev pub invariant-loop-mapped : goal.invariant-loop-mapped
invariant-loop-mapped l = l.proofs ≡ map (λ e. by_iso e.iso.name l.number (Var e.formal)) (take l.mapped-index l.maps)
