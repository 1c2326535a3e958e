use Rattle.std.proofs.Common.{subst, arith}
use Rattle.proof_objects.specs.view.Summaries.{Sums}
use Rattle.proof_objects.proofs.Summaries.{sums-next}
use Rattle.proof_objects.proofs.proof.summary_of.Goals as goal

pub loop-proof-preserved : goal.loop-proof-preserved
loop-proof-preserved c =
    sums-next c.args.proofs.now c.loop-proof.proof-index c.proof-item.result (omega (arith, c.loop-proof-test.true)) c.loop-proof.all c.summary.result c.and-all.result
    c.loop-proof.invariant (subst (Sums c.summary.result) c.proof-item.is c.summary.ensures) c.and-all.ensures
