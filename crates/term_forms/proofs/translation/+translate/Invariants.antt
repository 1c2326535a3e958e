use Rattle.std.proofs.Common.{◌≡◌, ◌+◌, ◌*◌, max, map, drop}
use Rattle.lisp_data.specs.Datum.{depth, deepest}
use Rattle.lisp_data.specs.FormView.{form_of}
use Rattle.lisp_data.specs.declared.form.Form.{Form}
use Rattle.terms.specs.Terms.{Tm}
use Rattle.term_forms.specs.Translation.{Outcome, Clause, translate, clause}
use Rattle.term_forms.specs.Bindings.{stands}
use Rattle.term_forms.specs.declared.bindings.Binding.{Binding}
use Rattle.term_forms.specs.Lets.{after_bindings}
use Rattle.term_forms.proofs.Lets.{deepest_bound, from}
use Rattle.term_forms.specs.Outcomes.{each, after}
use Rattle.term_forms.proofs.translation.+translate.Given as goal

abbrev pub invariant-part_terms-loop-part : goal.invariant-part_terms-loop-part
invariant-part_terms-loop-part g l =
    let f : Form → Outcome Tm = λ x. translate (g.S.Signatures.arity_of l.sigs) (stands l.scope) (form_of x) in
    after l.terms (each f (drop l.part-index l.parts)) ≡ each f l.parts

abbrev pub decreases-form_term : goal.decreases-form_term
decreases-form_term g l = 6 * depth (form_of l.form.now) + 5

abbrev pub decreases-list_term : goal.decreases-list_term
decreases-list_term g l = 6 * deepest (map form_of l.items.now) + 4

abbrev pub decreases-named_term : goal.decreases-named_term
decreases-named_term g l = 6 * deepest (map form_of l.parts.now) + 3

abbrev pub decreases-word_term : goal.decreases-word_term
decreases-word_term g l = 6 * deepest (map form_of l.parts.now) + 2

abbrev pub decreases-part_terms : goal.decreases-part_terms
decreases-part_terms g l = 6 * deepest (map form_of l.parts.now) + 1

abbrev pub invariant-cond_term-loop-clause : goal.invariant-cond_term-loop-clause
invariant-cond_term-loop-clause g l =
    let f : Form → Outcome Clause = λ x. clause (g.S.Signatures.arity_of l.sigs) (stands l.scope) (form_of x) in
    after l.found (each f (drop l.clause-index l.clauses)) ≡ each f l.clauses

abbrev pub decreases-cond_term : goal.decreases-cond_term
decreases-cond_term g l = 6 * deepest (map form_of l.clauses.now) + 1

abbrev pub decreases-clause_of : goal.decreases-clause_of
decreases-clause_of g l = 6 * depth (form_of l.clause.now) + 6

abbrev pub invariant-bound_terms-loop-binding : goal.invariant-bound_terms-loop-binding
invariant-bound_terms-loop-binding g l =
    let f : Binding → Outcome Tm = λ b. translate (g.S.Signatures.arity_of l.sigs) (stands l.scope) (form_of b.form.now) in
    after l.terms (each f (drop l.binding-index l.bindings)) ≡ each f l.bindings

abbrev pub decreases-let_term : goal.decreases-let_term
decreases-let_term g l = 6 * max (depth (form_of l.bindings.now)) (depth (form_of l.body.now)) + 7

abbrev pub decreases-bound_terms : goal.decreases-bound_terms
decreases-bound_terms g l = 6 * deepest_bound l.bindings.now + 1

abbrev pub decreases-let_in_turn_term : goal.decreases-let_in_turn_term
decreases-let_in_turn_term g l = 6 * max (depth (form_of l.bindings.now)) (depth (form_of l.body.now)) + 7

abbrev pub decreases-in_turn_term : goal.decreases-in_turn_term
decreases-in_turn_term g l = 6 * max (deepest_bound l.bindings.now) (depth (form_of l.body.now)) + 6

abbrev pub invariant-in_turn_term-loop-binding : goal.invariant-in_turn_term-loop-binding
invariant-in_turn_term-loop-binding g l =
    let takes = g.S.Signatures.arity_of l.sigs in
    from takes (form_of l.body) (stands l.inner) l.images l.bindings l.binding-index ≡ after_bindings takes (stands l.scope) l.bindings (form_of l.body)
