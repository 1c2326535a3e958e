use Rattle.std.proofs.Common.{◌≡◌, ◌+◌, ◌*◌, map, take}
use Rattle.terms.specs.Terms.{depth, depths, tms}
use Rattle.isodata_tool.specs.Carried.{with_new_calls}
use Rattle.isodata_tool.proofs.formulas.+with_new_calls.Given as goal

abbrev pub decreases-with_new_calls : goal.decreases-with_new_calls
decreases-with_new_calls l = 2 * depth l.term.now + 1

abbrev pub decreases-all_with_new_calls : goal.decreases-all_with_new_calls
decreases-all_with_new_calls l = 2 * depths (tms l.terms.now)

abbrev pub invariant-all_with_new_calls-loop-term : goal.invariant-all_with_new_calls-loop-term
invariant-all_with_new_calls-loop-term l = l.images ≡ map (with_new_calls l.change.old.now l.change.new.now l.change.maps.now l.change.formals.now) (take l.term-index l.terms)
