use Rattle.tool_parts.proofs.Proving.{ProvedTo}
use Rattle.restrict_tool.proofs.finishing.owing.Given as goal

abbrev pub invariant-loop-i : goal.invariant-loop-i
invariant-loop-i l = ProvedTo l.world l.sequents l.proofs l.i
