use Rattle.std.proofs.Common.{◌≡◌, ◌+◌, ◌*◌, ◌++◌, drop, map}
use Rattle.lisp_data.specs.FormView.{forms_of}
use Rattle.term_forms.specs.Printing.{form_of_term}
use Rattle.terms.specs.Terms.{depth, depths, tms}
use Rattle.proof_texts.proofs.print.+terms.Given as goal

abbrev pub decreases-term_form : goal.decreases-term_form
decreases-term_form l = 2 * depth l.term.now + 1

abbrev pub decreases-with_terms : goal.decreases-with_terms
decreases-with_terms l = 2 * depths (tms l.terms.now)

abbrev pub invariant-with_terms-loop-term : goal.invariant-with_terms-loop-term
invariant-with_terms-loop-term l = forms_of l.items ++ map form_of_term (drop l.term-index l.terms) ≡ forms_of l.fn.items ++ map form_of_term l.terms
