use Rattle.proof_builders.proofs.Differences.{Concluded}
use Rattle.proof_builders.proofs.congruence.all_concluded.Given as goal

abbrev pub invariant-loop-call : goal.invariant-loop-call
invariant-loop-call l = Concluded l.world l.calls l.call-index
