use Rattle.std.proofs.Common.{◌≡◌, take}
use Rattle.isodata_tool.specs.Proofs.{backs}
use Rattle.isodata_tool.proofs.maps.backs.Given as goal

abbrev pub invariant-loop-mapped : goal.invariant-loop-mapped
invariant-loop-mapped l = l.images ≡ backs (take l.mapped-index l.maps)
