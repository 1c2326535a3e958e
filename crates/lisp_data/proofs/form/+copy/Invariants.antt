use Rattle.std.proofs.Common.{◌≡◌, map, take}
use Rattle.lisp_data.specs.view.FormView.{form_of, forms_of, AllProper, AreProper}
use Rattle.lisp_data.proofs.form.+copy.Given as goal

abbrev pub invariant-Forms::copy-loop-item : goal.invariant-Forms::copy-loop-item
invariant-Forms::copy-loop-item l = record {
  copied : forms_of l.copy ≡ map form_of (take l.item-index l.item-items);
  proper : AllProper l.item-items → AreProper l.copy;
}
