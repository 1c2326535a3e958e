use Rattle.lisp_data.specs.FormView.{form_of}
use Rattle.events.proofs.WellFormed.{is_ground}
use Rattle.events.proofs.kinds.value_triple.value.Goals as goal

pub evaluate-requires : goal.evaluate-requires
evaluate-requires c = is_ground c.translated_terms_fit.ensures c.args.world.now c.soundness.ensures (form_of c.args.form.now) c.in_ok-term.term c.in_ok-term.ensures
