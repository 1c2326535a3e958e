use Rattle.std.proofs.Common.{ℕ, length, Err, subst}
use Rattle.lisp_data.specs.FormView.{form_of}
use Rattle.terms.specs.Terms.{Tm}
use Rattle.terms.specs.Worlds.{arity, is_in}
use Rattle.term_forms.specs.Translation.{Outcome, translate}
use Rattle.term_forms.specs.TranslationView.{SaysOutcome}
use Rattle.events.specs.Definitions.{with_own, body_of}
use Rattle.events.specs.view.Halts.{IsFromTerm}
use Rattle.events.proofs.StepLemmas.{by_error, term_refusal}
use Rattle.events.proofs.definitions.read_body.Goals as goal

pub returns-in_err-body : goal.returns-in_err-body
returns-in_err-body c =
    let o : ℕ → Outcome Tm = λ n. translate (with_own c.args.name.now n (arity c.args.world.now.functions)) (is_in c.args.formals.now) (form_of c.args.body.now) in
    let said : SaysOutcome {A = Tm} (o c.len.result) (Err c.in_err-body.field-0.0) = c.in_err-body.ensures in
    let all = length c.args.formals.now in
    let says : SaysOutcome {A = Tm} (o all) (Err c.in_err-body.field-0.0) = subst (λ n. SaysOutcome {A = Tm} (o n) (Err c.in_err-body.field-0.0)) c.len.ensures said in
    by_error (λ t. t) (body_of c.args.world.now c.args.name.now c.args.formals.now (form_of c.args.body.now)) c.from_residual.result (IsFromTerm c.in_err-body.field-0.0)
    c.from_residual.ensures (λ h is. term_refusal (o all) c.in_err-body.field-0.0 h says is)

pub returns : goal.returns
returns c = rw c.len.ensures at c.in_ok-body.ensures
