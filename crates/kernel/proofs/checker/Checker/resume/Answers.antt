use Rattle.kernel.proofs.Stacks.{premise_fits}
use Rattle.kernel.proofs.checker.Checker.resume.Goals as goal

pub proceed-requires-clause-left : goal.proceed-requires-clause-left
proceed-requires-clause-left c =
    premise_fits c.args.world.now c.args.frame c.args.proved c.push.new.self c.in_ok-push.ensures.ok c.requires.fits c.requires.proved
