use Rattle.std.proofs.Common.{Err}
use Rattle.lisp_data.specs.FormView.{form_of}
use Rattle.terms.specs.Terms.{Tm}
use Rattle.terms.specs.Worlds.{arity}
use Rattle.term_forms.specs.Translation.{Outcome, translate}
use Rattle.term_forms.specs.TranslationView.{allowed}
use Rattle.events.specs.view.Halts.{IsFromTerm}
use Rattle.events.proofs.StepLemmas.{by_error, term_refusal}
use Rattle.events.proofs.translated.read_term.Goals as goal

pub returns-in_err-term : goal.returns-in_err-term
returns-in_err-term c =
    let o : Outcome Tm = translate (arity c.args.world.now.functions) (allowed c.args.scope.now) (form_of c.args.form.now) in
    by_error (λ t. t) o c.from_residual.result (IsFromTerm c.in_err-term.field-0.0) c.from_residual.ensures (λ h is. term_refusal o c.in_err-term.field-0.0 h c.in_err-term.ensures is)
