use Rattle.std.proofs.Common.{◌≡◌, ◌+◌, ◌*◌, drop}
use Rattle.terms.specs.Terms.{depth, depths, tms}
use Rattle.terms.specs.Instances.{with_calls_in}
use Rattle.soft_vars.proofs.instances.+calls.Given as goal

abbrev pub decreases-add_calls : goal.decreases-add_calls
decreases-add_calls l = 2 * depth l.term.now + 1

abbrev pub decreases-add_calls_in : goal.decreases-add_calls_in
decreases-add_calls_in l = 2 * depths (tms l.terms.now)

abbrev pub invariant-add_calls_in-loop-term : goal.invariant-add_calls_in-loop-term
invariant-add_calls_in-loop-term l = with_calls_in (tms (drop l.term-index l.terms)) l.found.keys ≡ with_calls_in (tms l.terms) l.initial.found.keys
