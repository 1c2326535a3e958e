use Rattle.std.proofs.Common.{◌≡◌, ◌+◌, ◌*◌, map, take}
use Rattle.terms.specs.Substitution.{by_pairs}
use Rattle.terms.specs.Terms.{depth, depths, tms, substitute}
use Rattle.terms.proofs.subst.+substitute.Given as goal

abbrev pub decreases-substitute : goal.decreases-substitute
decreases-substitute l = 2 * depth l.term.now + 1

abbrev pub decreases-substitute_all : goal.decreases-substitute_all
decreases-substitute_all l = 2 * depths (tms l.terms.now)

abbrev pub invariant-substitute_all-loop-term : goal.invariant-substitute_all-loop-term
invariant-substitute_all-loop-term l = l.images ≡ map (substitute (by_pairs l.s)) (take l.term-index l.terms)
