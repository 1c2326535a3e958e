use Rattle.std.proofs.Common.{◌≡◌, ◌++◌, ◌∷◌, [], drop, map}
use Rattle.lisp_data.specs.Datum.{SymForm}
use Rattle.lisp_data.specs.FormView.{forms_of}
use Rattle.term_forms.specs.Printing.{form_of_term}
use Rattle.proof_texts.specs.Printing as spec
use Rattle.proof_texts.proofs.print.substitution_form.Given as goal

abbrev pub invariant-loop-i : goal.invariant-loop-i
invariant-loop-i l = forms_of l.items ++ map spec.image_form (drop l.i l.s) ≡ map spec.image_form l.s
