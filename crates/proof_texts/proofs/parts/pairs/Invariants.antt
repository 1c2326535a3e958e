use Rattle.std.proofs.Common.{◌≡◌, drop, map, []}
use Rattle.lisp_data.specs.FormView.{form_of}
use Rattle.proof_texts.specs.Parts.{with_pairs}
use Rattle.proof_texts.proofs.parts.pairs.Given as goal

abbrev pub invariant-loop-form : goal.invariant-loop-form
invariant-loop-form l = with_pairs l.world l.s (map form_of (drop l.form-index l.forms)) ≡ with_pairs l.world [] (map form_of l.forms)
