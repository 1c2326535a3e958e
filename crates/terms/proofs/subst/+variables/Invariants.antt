use Rattle.std.proofs.Common.{◌≡◌, ◌+◌, ◌*◌, drop}
use Rattle.terms.specs.Variables.{with_variables_in}
use Rattle.terms.specs.Terms.{depth, depths, tms}
use Rattle.terms.proofs.subst.+variables.Given as goal

abbrev pub decreases-collect : goal.decreases-collect
decreases-collect l = 2 * depth l.term.now + 1

abbrev pub decreases-collect_all : goal.decreases-collect_all
decreases-collect_all l = 2 * depths (tms l.terms.now)

abbrev pub invariant-collect_all-loop-term : goal.invariant-collect_all-loop-term
invariant-collect_all-loop-term l = with_variables_in (tms (drop l.term-index l.terms)) l.found ≡ with_variables_in (tms l.terms) l.initial.found
