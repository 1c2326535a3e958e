use Rattle.std.proofs.Common.{map}
use Rattle.lisp_data.specs.FormView.{form_of}
use Rattle.logic_tests.proofs.hint_prover_calls.ending_of.Goals as goal

pub prove-requires-clause-hints : goal.prove-requires-clause-hints
prove-requires-clause-hints c =
    c.hints_fit.ensures c.in_ok-world.world c.soundness.ensures c.in_ok-condition.condition.universals (map form_of c.in-Some.steps.now) c.in-Ok.hints c.in-Ok.ensures
