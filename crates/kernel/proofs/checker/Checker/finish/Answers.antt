use Rattle.std.proofs.Common.{subst}
use Rattle.proof_objects.specs.ProofTrees.{step_of}
use Rattle.kernel.specs.Conclusion.{sequents_of}
use Rattle.kernel.specs.view.Checking.{at_step, Refuses}
use Rattle.kernel.proofs.Stacks.{refuses-on}
use Rattle.kernel.proofs.checker.Checker.finish.Goals as goal

pub returns-clause-goes : goal.returns-clause-goes
returns-clause-goes c =
    let W = c.args.world.now in
    let m = c.args.self.now in
    refuses-on W m.frames.items _ c.in-Err.error
    (subst (λ cs. Refuses (at_step W (step_of c.args.proof.now) (sequents_of cs) m.nodes) c.in-Err.error) c.as_slice.ensures c.in-Err.ensures.says)
