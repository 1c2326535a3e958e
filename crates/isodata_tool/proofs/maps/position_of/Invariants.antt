use Rattle.std.proofs.Common.{◌≡◌, ◌+◌, drop, option_map}
use Rattle.isodata_tool.specs.Carried.{position_of}
use Rattle.isodata_tool.proofs.maps.position_of.Given as goal

abbrev pub invariant-loop-i : goal.invariant-loop-i
invariant-loop-i l = position_of l.names l.name ≡ option_map (λ k. l.i + k) (position_of (drop l.i l.names) l.name)
