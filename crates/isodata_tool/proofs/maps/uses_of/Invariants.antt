use Rattle.std.proofs.Common.{◌≡◌, take}
use Rattle.isodata_tool.specs.Carried.{uses_of}
use Rattle.isodata_tool.proofs.maps.uses_of.Given as goal

abbrev pub invariant-loop-mapped : goal.invariant-loop-mapped
invariant-loop-mapped l = l.uses ≡ uses_of (take l.mapped-index l.maps)
