use Rattle.std.proofs.Common.{◌≡◌, ◌≤◌, ◌+◌, ◌*◌, ◌++◌, ◌∷◌, drop, map}
use Rattle.lisp_data.specs.FormView.{forms_of}
use Rattle.proof_objects.specs.ProofTrees.{depth, depths, trees}
use Rattle.proof_texts.specs.Given.{seen}
use Rattle.proof_texts.specs.Printing as spec
use Rattle.proof_texts.proofs.PrintLemmas.{cases_left}
use Rattle.proof_texts.proofs.print.+proofs.Given as goal

abbrev pub decreases-proof_form : goal.decreases-proof_form
decreases-proof_form l = 4 * depth l.proof.now + 3

abbrev pub decreases-laid : goal.decreases-laid
decreases-laid l = 4 * depths (trees l.proofs.now) + 2

abbrev pub decreases-part_form : goal.decreases-part_form
decreases-part_form l = 4 * depths (trees l.proofs.now) + 1

abbrev pub decreases-cases_forms : goal.decreases-cases_forms
decreases-cases_forms l = 4 * depths (trees l.proofs.now)

abbrev pub invariant-laid-loop-kind : goal.invariant-laid-loop-kind
invariant-laid-loop-kind l = record {
  shallow : depths (trees l.proofs) ≤ depths (trees l.fn.proofs);
  same : forms_of l.items ++ spec.laid (drop l.kind-index l.kind-items) (map seen l.given) (map spec.form_of_proof l.proofs)
      ≡ spec.word_form l.fn.word ∷ spec.laid (spec.kinds_of l.fn.word) (map seen l.fn.given) (map spec.form_of_proof l.fn.proofs);
}

abbrev pub invariant-cases_forms-loop-i : goal.invariant-cases_forms-loop-i
invariant-cases_forms-loop-i l = forms_of l.items ++ cases_left l.cases l.proofs l.i ≡ cases_left l.cases l.proofs 0
