use Rattle.std.proofs.Common.{◌≡◌, ◌+◌, ◌*◌, drop}
use Rattle.terms.specs.Terms.{depth, depths, tms}
use Rattle.terms.specs.Measures.{is_nested_in}
use Rattle.measures.proofs.shapes.+nested.Given as goal

abbrev pub decreases-is_nested : goal.decreases-is_nested
decreases-is_nested l = 2 * depth l.term.now + 1

abbrev pub decreases-is_nested_in : goal.decreases-is_nested_in
decreases-is_nested_in l = 2 * depths (tms l.terms.now)

abbrev pub invariant-is_nested_in-loop-term : goal.invariant-is_nested_in-loop-term
invariant-is_nested_in-loop-term l = is_nested_in l.name (tms (drop l.term-index l.terms)) ≡ is_nested_in l.name (tms l.terms)
