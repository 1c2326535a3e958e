use Rattle.std.proofs.Common.{◌∙◌}
use Rattle.events.proofs.HandleLemmas.{suited_plan}
use Rattle.events.proofs.handle.judge.Goals as goal

pub carry_out-requires-clause-suited : goal.carry_out-requires-clause-suited
carry_out-requires-clause-suited g c =
    suited_plan c.args.world.now c.soundness.ensures (g.K.Kind.frame c.args.event.now) c.is_lawful.ensures c.new.result c.as_slice.result.now c.new.ensures (c.as_slice.ensures ∙ c.in_ok-names.ensures) c.in_ok-check_names.ensures
    c.in_ok-plan.plan c.in_ok-plan.ensures
