use Rattle.std.proofs.Common.{◌≡◌, map, take}
use Rattle.measures.specs.Calls.{call_of}
use Rattle.proof_builders.specs.Schemes.{hypothesis}
use Rattle.proof_builders.proofs.hypotheses.scheme.Given as goal

abbrev pub invariant-loop-call : goal.invariant-loop-call
invariant-loop-call l = l.hyps ≡ map (hypothesis l.formals l.goal) (map call_of (take l.call-index l.calls))
