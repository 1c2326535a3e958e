use Rattle.std.proofs.Common.{◌≡◌, ◌+◌, ◌*◌, drop}
use Rattle.terms.specs.Terms.{depth, depths, tms}
use Rattle.reduction_proofs.specs.Derived.{equate_all}
use Rattle.hint_prover.proofs.derived.+equate.Given as goal

abbrev pub decreases-equate : goal.decreases-equate
decreases-equate l = 2 * depth l.term.now + 1

abbrev pub decreases-equate_all : goal.decreases-equate_all
decreases-equate_all l = 2 * depths (tms l.terms.now)

abbrev pub invariant-equate_all-loop-i : goal.invariant-equate_all-loop-i
invariant-equate_all-loop-i l = equate_all l.name l.eq (tms (drop l.i l.terms)) (l.i + 1) l.all ≡ equate_all l.name l.eq (tms l.terms) 1 l.fn.p
