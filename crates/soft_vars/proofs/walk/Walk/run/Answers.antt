use Rattle.std.proofs.Common.{refl}
use Rattle.terms.specs.Dependence.{function_dependence}
use Rattle.soft_vars.specs.view.Walks.{after}
use Rattle.soft_vars.proofs.Walking.{taken}
use Rattle.soft_vars.proofs.walk.Walk.run.Goals as goal

pub loop-step-preserved : goal.loop-step-preserved
loop-step-preserved c =
    let all = after (function_dependence c.args.world.now) c.args.self.left.items c.args.self.found in
    c.in_ok-act.ensures all
    (taken c.args.world.now all c.loop-step.walk (record { left = c.pop.new.self; done = c.loop-step.walk.done; found = c.loop-step.walk.found }) c.in-Some.task c.in-Some.ensures.items refl refl c.loop-step.invariant)
