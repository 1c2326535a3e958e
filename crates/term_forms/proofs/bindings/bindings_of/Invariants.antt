use Rattle.std.proofs.Common.{◌≡◌, map, take, drop}
use Rattle.lisp_data.specs.Values.{Name}
use Rattle.lisp_data.specs.FormView.{form_of}
use Rattle.lisp_data.specs.declared.form.Form.{Form}
use Rattle.term_forms.specs.Translation.{Outcome, bound_name}
use Rattle.term_forms.specs.Bindings.{names_of, binding_form, AreAllProper}
use Rattle.term_forms.specs.Outcomes.{each, after}
use Rattle.term_forms.proofs.bindings.bindings_of.Given as goal

abbrev pub invariant-loop-item : goal.invariant-loop-item
invariant-loop-item l =
    let f : Form → Outcome Name = λ x. bound_name (form_of x) in
    record {
      names : after (names_of l.bindings) (each f (drop l.item-index l.items)) ≡ each f l.items;
      forms : map binding_form l.bindings ≡ map form_of (take l.item-index l.items);
      proper : AreAllProper l.bindings;
    }
