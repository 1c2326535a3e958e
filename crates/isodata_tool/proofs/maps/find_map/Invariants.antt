use Rattle.std.proofs.Common.{◌≡◌, drop}
use Rattle.isodata_tool.specs.Carried.{find_map}
use Rattle.isodata_tool.proofs.maps.find_map.Given as goal

abbrev pub invariant-loop-mapped : goal.invariant-loop-mapped
invariant-loop-mapped l = find_map l.maps l.name ≡ find_map (drop l.mapped-index l.maps) l.name
