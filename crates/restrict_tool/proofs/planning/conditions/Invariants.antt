use Rattle.std.proofs.Common.{◌≡◌, map, take}
use Rattle.measures.specs.Calls.{call_of}
use Rattle.restrict_tool.specs.Restrictions.{stays_restricted}
use Rattle.restrict_tool.proofs.planning.conditions.Given as goal

abbrev pub invariant-loop-call : goal.invariant-loop-call
invariant-loop-call l = l.sequents ≡ map (stays_restricted l.definition l.restriction) (map call_of (take l.call-index l.call-items))
