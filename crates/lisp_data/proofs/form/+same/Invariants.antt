use Rattle.std.proofs.Common.{◌≡◌, length}
use Rattle.lisp_data.proofs.Chains.{forms_to}
use Rattle.lisp_data.proofs.form.+same.Given as goal

abbrev pub invariant-same_all-loop-i : goal.invariant-same_all-loop-i
invariant-same_all-loop-i l = (length l.xs ≡ length l.ys) × (forms_to l.xs l.i ≡ forms_to l.ys l.i)
