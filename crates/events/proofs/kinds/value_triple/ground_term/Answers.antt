use Rattle.std.proofs.Common.{◌≡◌, List, Ok, Err, ap, sym, ◌∙◌, subst}
use Rattle.lisp_data.specs.FormView.{form_of}
use Rattle.lisp_data.specs.Values.{Name}
use Rattle.terms.specs.Terms.{Tm}
use Rattle.terms.specs.Worlds.{arity, is_in}
use Rattle.term_forms.specs.Translation.{Outcome, translate}
use Rattle.term_forms.specs.TranslationView.{SaysOutcome}
use Rattle.events.specs.ValueTriple.{ground_term}
use Rattle.events.specs.view.Halts.{IsFromTerm}
use Rattle.events.proofs.StepLemmas.{by_error, first_refusal}
use Rattle.events.proofs.kinds.value_triple.ground_term.Goals as goal

pub returns-in_err-term : goal.returns-in_err-term
returns-in_err-term c =
    let over : List Name → Outcome Tm = λ xs. translate (arity c.args.world.now.functions) (is_in xs) (form_of c.args.form.now) in
    let o : Outcome Tm = ground_term c.args.world.now (form_of c.args.form.now) in
    let said : SaysOutcome {A = Tm} (over c.new-no_variables.result) (Err c.in_err-term.field-0.0) = c.in_err-term.ensures in
    let says : SaysOutcome {A = Tm} o (Err c.in_err-term.field-0.0) = subst (λ xs. SaysOutcome {A = Tm} (over xs) (Err c.in_err-term.field-0.0)) c.new-no_variables.ensures said in
    by_error (λ t. t) o c.from_residual.result (IsFromTerm c.in_err-term.field-0.0) c.from_residual.ensures (λ h is. first_refusal o c.in_err-term.field-0.0 h says is)

pub returns : goal.returns
returns c =
    let over : List Name → Outcome Tm = λ xs. translate (arity c.args.world.now.functions) (is_in xs) (form_of c.args.form.now) in
    let said : over c.new-no_variables.result ≡ Ok c.in_ok-term.term = c.in_ok-term.ensures in
    sym (ap over c.new-no_variables.ensures) ∙ said
