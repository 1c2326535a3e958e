use Rattle.std.proofs.Common.{◌++◌}
use Rattle.ring_laws.specs.FormalSums.{times_each}
use Rattle.ring_laws.specs.view.Held.{held, together, SameSum}
use Rattle.ring_laws.proofs.polynomial.Polynomial.add_times.Given as goal

abbrev pub invariant-loop-others : goal.invariant-loop-others
invariant-loop-others l =
    SameSum (held l.self.terms.entries ++ times_each together (l.monomial, l.factor) (held l.others-iterator)) (held l.initial.self.terms.entries ++ times_each together (l.monomial, l.factor) (held l.other.terms.entries))
