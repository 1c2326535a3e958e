use Rattle.std.proofs.Common.{◌≡◌, ◌++◌, drop, map}
use Rattle.lisp_data.specs.FormView.{forms_of}
use Rattle.proof_texts.specs.Printing as spec
use Rattle.proof_texts.proofs.print.path_form.Given as goal

abbrev pub invariant-loop-number : goal.invariant-loop-number
invariant-loop-number l = forms_of l.items ++ map spec.number_form (drop l.number-index l.path) ≡ map spec.number_form l.path
