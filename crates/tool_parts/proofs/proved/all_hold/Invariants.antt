use Rattle.tool_parts.proofs.Held.{HeldTo}
use Rattle.tool_parts.proofs.proved.all_hold.Given as goal

abbrev pub invariant-loop-i : goal.invariant-loop-i
invariant-loop-i l = HeldTo l.world l.sequents l.i
