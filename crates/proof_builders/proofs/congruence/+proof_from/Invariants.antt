use Rattle.std.proofs.Common.{length}
use Rattle.proof_builders.proofs.congruence.+proof_from.Given as goal

abbrev pub decreases-proof_from : goal.decreases-proof_from
decreases-proof_from l = length l.calls.now
