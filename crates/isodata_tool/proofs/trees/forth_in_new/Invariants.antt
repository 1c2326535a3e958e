use Rattle.std.proofs.Common.{◌≡◌, take}
use Rattle.isodata_tool.specs.Proofs.{forth_in_new}
use Rattle.isodata_tool.proofs.trees.forth_in_new.Given as goal

abbrev pub invariant-loop-mapped : goal.invariant-loop-mapped
invariant-loop-mapped l = l.terms ≡ forth_in_new (take l.mapped-index l.maps)
