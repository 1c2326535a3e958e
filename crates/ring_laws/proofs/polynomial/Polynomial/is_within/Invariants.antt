use Rattle.std.proofs.Common.{◌≡◌, bytes_eq}
use Rattle.std.specs.List.{list_all}
use Rattle.std.specs.Ordering.{int_eq}
use Rattle.ring_laws.specs.FormalSums.{coefficient}
use Rattle.ring_laws.specs.view.Held.{held}
use Rattle.ring_laws.proofs.polynomial.Polynomial.is_within.Given as goal

abbrev pub invariant-loop-monomial : goal.invariant-loop-monomial
invariant-loop-monomial l =
    list_all (λ e. int_eq (coefficient bytes_eq (held l.self.terms.entries) e.0) (coefficient bytes_eq (held l.other.terms.entries) e.0)) (held l.monomial-iterator)
    ≡ list_all (λ e. int_eq (coefficient bytes_eq (held l.self.terms.entries) e.0) (coefficient bytes_eq (held l.other.terms.entries) e.0)) (held l.self.terms.entries)
