use Rattle.std.proofs.Common.{◌≡◌, ◌+◌, ◌*◌, drop}
use Rattle.terms.specs.Substitution.{by_pairs}
use Rattle.terms.specs.Terms.{Tm, depth, depths, tms, substitute}
use Rattle.term_forms.specs.Translation.{Outcome, limited}
use Rattle.term_forms.specs.Outcomes.{each, after}
use Rattle.term_forms.proofs.bindings.+replace.Given as goal

abbrev pub decreases-replace : goal.decreases-replace
decreases-replace l = 3 * depth l.term.now + 2

abbrev pub decreases-replace_all : goal.decreases-replace_all
decreases-replace_all l = 3 * depths (tms l.terms.now)

abbrev pub invariant-replace_all-loop-term : goal.invariant-replace_all-loop-term
invariant-replace_all-loop-term l =
    let f : Tm → Outcome Tm = λ t. limited (substitute (by_pairs l.images) t) in
    after l.parts (each f (drop l.term-index l.terms)) ≡ each f l.terms

abbrev pub decreases-replace_call : goal.decreases-replace_call
decreases-replace_call l = 3 * depths (tms l.args.now) + 1
