use Rattle.std.proofs.Common.{◌≡◌, ◌+◌, ◌-◌, ◌*◌, ◌++◌, length, drop}
use Rattle.std.specs.Option.{option_copied}
use Rattle.terms.specs.Terms.{depth, depths, tms}
use Rattle.soft_vars.specs.view.Walks.{visits_all}
use Rattle.soft_vars.proofs.walk.+visits.Given as goal

abbrev pub decreases-add_visits : goal.decreases-add_visits
decreases-add_visits l = 2 * depth l.term.now + 1

abbrev pub decreases-add_all_visits : goal.decreases-add_all_visits
decreases-add_all_visits l = 2 * depths (tms l.terms.now)

abbrev pub invariant-add_all_visits-loop-i : goal.invariant-add_all_visits-loop-i
invariant-add_all_visits-loop-i l = l.left.items ≡ l.initial.left.items ++ visits_all (option_copied l.but) (tms (drop (length l.terms - l.i) l.terms))
