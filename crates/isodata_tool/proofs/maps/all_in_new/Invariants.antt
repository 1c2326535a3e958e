use Rattle.std.proofs.Common.{◌≡◌, take}
use Rattle.isodata_tool.specs.Carried.{all_in_new}
use Rattle.isodata_tool.proofs.maps.all_in_new.Given as goal

abbrev pub invariant-loop-mapped : goal.invariant-loop-mapped
invariant-loop-mapped l = l.terms ≡ all_in_new (take l.mapped-index l.maps)
