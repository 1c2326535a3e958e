use Rattle.std.proofs.Common.{◌≡◌, ◌++◌, drop, map}
use Rattle.lisp_data.specs.FormView.{forms_of}
use Rattle.proof_texts.specs.Printing as spec
use Rattle.proof_texts.proofs.print.functions_form.Given as goal

abbrev pub invariant-loop-functions : goal.invariant-loop-functions
invariant-loop-functions l = forms_of l.items ++ map spec.pair_form (drop l.functions-index l.pairs) ≡ map spec.pair_form l.pairs
