use Rattle.std.proofs.Common.{◌≡◌, ◌+◌, ◌*◌, ◌-◌, drop}
use Rattle.terms.specs.Terms.{depth, depths, tms}
use Rattle.measures.specs.view.Calls.{calls_in}
use Rattle.measures.proofs.counts.+counts.Given as goal

abbrev pub decreases-left_of : goal.decreases-left_of
decreases-left_of l = 2 * depth l.term.now + 1

abbrev pub decreases-left_of_all : goal.decreases-left_of_all
decreases-left_of_all l = 2 * depths (tms l.terms.now)

abbrev pub invariant-left_of_all-loop-term : goal.invariant-left_of_all-loop-term
invariant-left_of_all-loop-term l = l.left - calls_in l.name (tms (drop l.term-index l.terms)) ≡ l.number - calls_in l.name (tms l.terms)
