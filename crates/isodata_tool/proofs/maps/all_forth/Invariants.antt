use Rattle.std.proofs.Common.{◌≡◌, take}
use Rattle.isodata_tool.proofs.Mapping.{forth_list}
use Rattle.isodata_tool.proofs.maps.all_forth.Given as goal

abbrev pub invariant-loop-i : goal.invariant-loop-i
invariant-loop-i l = l.images ≡ forth_list l.maps l.formals (take l.i l.args)
