use Rattle.std.proofs.Common.{map}
use Rattle.measures.specs.Calls.{call_of}
use Rattle.restrict_tool.specs.Proofs.{agreement}
use Rattle.tool_parts.proofs.Proving.{ProvedTo}
use Rattle.restrict_tool.proofs.finishing.agreements.Given as goal

abbrev pub invariant-loop-i : goal.invariant-loop-i
invariant-loop-i l =
    ProvedTo l.next (map (agreement l.parts.definition.now l.parts.function.now l.parts.restriction.now) (map call_of l.calls)) l.proofs l.i
