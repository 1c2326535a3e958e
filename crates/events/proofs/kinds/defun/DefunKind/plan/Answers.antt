use Rattle.event_forms.specs.ShapeView.{function_seen}
use Rattle.events.proofs.Lawful.{owes}
use Rattle.events.proofs.kinds.defun.DefunKind.plan.Goals as goal

pub measure_conditions-requires-clause-distinct : goal.measure_conditions-requires-clause-distinct
measure_conditions-requires-clause-distinct c =
    (owes c.translated_terms_fit.ensures c.args.world.now c.soundness.ensures c.args.self.now.order (function_seen c.args.self.now.function) c.requires.names c.in_ok-definition.definition c.in_ok-definition.ensures).distinct

pub measure_conditions-requires-clause-arity : goal.measure_conditions-requires-clause-arity
measure_conditions-requires-clause-arity c =
    (owes c.translated_terms_fit.ensures c.args.world.now c.soundness.ensures c.args.self.now.order (function_seen c.args.self.now.function) c.requires.names c.in_ok-definition.definition c.in_ok-definition.ensures).arity

pub measure_conditions-requires-clause-flat : goal.measure_conditions-requires-clause-flat
measure_conditions-requires-clause-flat c =
    (owes c.translated_terms_fit.ensures c.args.world.now c.soundness.ensures c.args.self.now.order (function_seen c.args.self.now.function) c.requires.names c.in_ok-definition.definition c.in_ok-definition.ensures).flat
