use Rattle.std.proofs.Common.{◌≡◌, ◌+◌, ◌*◌, drop}
use Rattle.terms.specs.Terms.{depth, depths, tms}
use Rattle.kernel.specs.Evaluating.{all_ground}
use Rattle.kernel.proofs.evaluating.+variables.Given as goal

abbrev pub decreases-is_ground : goal.decreases-is_ground
decreases-is_ground l = 2 * depth l.term.now + 1

abbrev pub decreases-all_ground : goal.decreases-all_ground
decreases-all_ground l = 2 * depths (tms l.terms.now)

abbrev pub invariant-all_ground-loop-term : goal.invariant-all_ground-loop-term
invariant-all_ground-loop-term l = all_ground (tms (drop l.term-index l.terms)) ≡ all_ground (tms l.terms)
