use Rattle.std.proofs.Common.{◌≡◌}
use Rattle.lisp_reader.proofs.Values.{any_from}
use Rattle.lisp_reader.proofs.value.+has_text.Given as goal

abbrev pub invariant-any_text-loop-form : goal.invariant-any_text-loop-form
invariant-any_text-loop-form l = any_from l.forms l.form-index ≡ any_from l.forms 0
