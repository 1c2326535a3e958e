use Rattle.std.proofs.Common.{◌++◌}
use Rattle.ring_laws.specs.FormalSums.{products}
use Rattle.ring_laws.specs.view.Held.{held, together, SameSum}
use Rattle.ring_laws.proofs.polynomial.Polynomial.times.Given as goal

abbrev pub invariant-loop-monomial : goal.invariant-loop-monomial
invariant-loop-monomial l =
    SameSum (held l.product.terms.entries ++ products together (held l.monomial-iterator) (held l.other.terms.entries)) (products together (held l.self.terms.entries) (held l.other.terms.entries))
