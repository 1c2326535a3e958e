use Rattle.std.proofs.Common.{◌≡◌, take}
use Rattle.isodata_tool.specs.Proofs.{back_in_old}
use Rattle.isodata_tool.proofs.trees.back_in_old.Given as goal

abbrev pub invariant-loop-mapped : goal.invariant-loop-mapped
invariant-loop-mapped l = l.terms ≡ back_in_old (take l.mapped-index l.maps)
