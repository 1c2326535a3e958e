use Rattle.std.proofs.Common.{◌≡◌, ◌+◌, ◌*◌, drop}
use Rattle.terms.specs.Terms.{depth, depths, tms}
use Rattle.terms.specs.Measures.{mentions_in}
use Rattle.measures.proofs.shapes.+mentions.Given as goal

abbrev pub decreases-mentions : goal.decreases-mentions
decreases-mentions l = 2 * depth l.term.now + 1

abbrev pub decreases-mentions_in : goal.decreases-mentions_in
decreases-mentions_in l = 2 * depths (tms l.terms.now)

abbrev pub invariant-mentions_in-loop-term : goal.invariant-mentions_in-loop-term
invariant-mentions_in-loop-term l = mentions_in l.name (tms (drop l.term-index l.terms)) ≡ mentions_in l.name (tms l.terms)
