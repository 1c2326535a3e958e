use Rattle.std.proofs.Common.{arith, Err, Ok, subst}
use Rattle.lisp_data.specs.FormView.{form_of}
use Rattle.terms.specs.Terms.{Tm}
use Rattle.term_forms.specs.Translation.{Scope, translate}
use Rattle.term_forms.specs.view.TranslationView.{allowed, SaysOutcome}
use Rattle.term_forms.proofs.translation.translate.Goals as goal

pub returns-in_err-counted : goal.returns-in_err-counted
returns-in_err-counted g c =
    let takes = g.S.Signatures.arity_of c.args.sigs.now in
    let says : SaysOutcome {A = Tm} (translate takes (allowed c.args.scope.now) (form_of c.args.form.now)) (Err c.in_err-counted.field-0.0) =
    subst (λ (s : Scope). SaysOutcome {A = Tm} (translate takes s (form_of c.args.form.now)) (Err c.in_err-counted.field-0.0)) c.of-variables.ensures c.in_err-counted.ensures in
    grind arith

pub returns : goal.returns
returns g c =
    let takes = g.S.Signatures.arity_of c.args.sigs.now in
    let says : SaysOutcome {A = Tm} (translate takes (allowed c.args.scope.now) (form_of c.args.form.now)) (Ok c.in_ok-counted.counted) =
    subst (λ (s : Scope). SaysOutcome {A = Tm} (translate takes s (form_of c.args.form.now)) (Ok c.in_ok-counted.counted)) c.of-variables.ensures c.in_ok-counted.ensures in
    grind arith
