use Rattle.tool_parts.proofs.Proving.{ProvedTo}
use Rattle.isodata_tool.proofs.finishing.owing.Given as goal

abbrev pub invariant-loop-i : goal.invariant-loop-i
invariant-loop-i l = ProvedTo l.parts.world.now l.sequents l.proofs l.i
