use Rattle.std.proofs.Common.{arith, Err}
use Rattle.lisp_data.specs.FormView.{form_of}
use Rattle.lisp_data.specs.Values.{Name}
use Rattle.term_forms.specs.Translation.{bound_name}
use Rattle.term_forms.specs.view.TranslationView.{SaysOutcome}
use Rattle.term_forms.proofs.Bound.{bound-refused, bound-taken, binding-taken}
use Rattle.term_forms.proofs.bindings.Binding.of.Goals as goal

pub returns-in_err-name-in-Some-clause-says : goal.returns-in_err-name-in-Some-clause-says
returns-in_err-name-in-Some-clause-says c =
    let e = c.in_err-name-in-Some.field-0.0 in
    let says : SaysOutcome {A = Name} (bound_name (form_of c.args.form.now)) (Err e) =
    bound-refused (form_of c.args.form.now) (form_of c.in-Some.name.now) (form_of c.in-Some.form.now) e c.in-Some.ensures.items c.in_err-name-in-Some.ensures in
    grind arith

pub returns-in_ok-name-in-Some-clause-says : goal.returns-in_ok-name-in-Some-clause-says
returns-in_ok-name-in-Some-clause-says c =
    let d = form_of c.args.form.now in
    let a = form_of c.in-Some.name.now in
    let b = form_of c.in-Some.form.now in
    (bound-taken d a b c.in_ok-name-in-Some.name c.in-Some.ensures.items c.in_ok-name-in-Some.ensures, binding-taken d a b c.in_ok-name-in-Some.name c.in-Some.ensures.items c.in_ok-name-in-Some.ensures)
