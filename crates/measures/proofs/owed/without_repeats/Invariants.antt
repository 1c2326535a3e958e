use Rattle.std.proofs.Common.{◌≡◌, drop}
use Rattle.terms.specs.Joins.{join, without_repeats}
use Rattle.measures.proofs.owed.without_repeats.Given as goal

abbrev pub invariant-loop-term : goal.invariant-loop-term
invariant-loop-term l = join l.once (drop l.term-index l.terms) ≡ without_repeats l.terms
