use Rattle.std.proofs.Common.{◌≡◌, [], drop}
use Rattle.terms.specs.Joins.{join}
use Rattle.sequents.proofs.joins.without_repeats.Given as goal

abbrev pub invariant-loop-term : goal.invariant-loop-term
invariant-loop-term l = join l.all (drop l.term-index l.terms) ≡ join [] l.terms
