use Rattle.std.proofs.Common.{◌≡◌, map, take}
use Rattle.measures.specs.Calls.{call_of}
use Rattle.isodata_tool.specs.Carried.{stays_old}
use Rattle.isodata_tool.proofs.planning.conditions.Given as goal

abbrev pub invariant-loop-call : goal.invariant-loop-call
invariant-loop-call l = l.sequents ≡ map (stays_old l.definition l.maps) (map call_of (take l.call-index l.call-items))
