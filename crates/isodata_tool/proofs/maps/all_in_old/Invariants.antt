use Rattle.std.proofs.Common.{◌≡◌, take}
use Rattle.terms.specs.Substitution.{by_pairs}
use Rattle.isodata_tool.specs.Carried.{all_in_old}
use Rattle.isodata_tool.proofs.maps.all_in_old.Given as goal

abbrev pub invariant-loop-mapped : goal.invariant-loop-mapped
invariant-loop-mapped l = l.terms ≡ all_in_old (take l.mapped-index l.maps) (by_pairs l.images)
