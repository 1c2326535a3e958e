use Rattle.std.proofs.Common.{arith, Err, List, map, subst}
use Rattle.lisp_data.specs.Datum.{chain, nil_form}
use Rattle.lisp_data.specs.FormView.{form_of}
use Rattle.lisp_data.specs.declared.form.Form.{Form}
use Rattle.lisp_data.specs.Values.{Name}
use Rattle.term_forms.specs.Bindings.{names_of}
use Rattle.term_forms.specs.Translation.{bound_name, bound_names}
use Rattle.term_forms.specs.view.TranslationView.{SaysOutcome}
use Rattle.term_forms.proofs.Each.{each-refused}
use Rattle.term_forms.proofs.Bound.{list-refused}
use Rattle.term_forms.proofs.bindings.bindings_of.Goals as goal

pub returns-in_err-binding-clause-says : goal.returns-in_err-binding-clause-says
returns-in_err-binding-clause-says c =
    let xs = c.args.items.now in
    let e = c.in_err-binding.field-0.0 in
    let item : SaysOutcome {A = Name} (bound_name (form_of c.item-item.result)) (Err e) = c.in_err-binding.ensures.says in
    let says : SaysOutcome {A = List Name} (bound_names (chain (map form_of xs) nil_form)) (Err e) =
    list-refused xs e (each-refused (λ x. bound_name (form_of x)) xs c.loop-item.item-index c.item-item.result (names_of c.loop-item.bindings) e
    (omega arith) c.loop-item.invariant.names (subst (λ (x : Form). SaysOutcome {A = Name} (bound_name (form_of x)) (Err e)) c.item-item.is item)) in
    grind arith
