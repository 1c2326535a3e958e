-- The laws of ring comparison.
use Rattle.std.specs.Prelude.{◌≡◌, ◌↔◌, true, IsTrue, [], codes}
use Rattle.terms.specs.Terms.{Tm}
use Rattle.terms.specs.Measures.{call2}
use Rattle.terms.specs.Worlds.{World, Fits, FitsSequent, Holds}
use Rattle.terms.specs.Sound.{Sound}
use Rattle.terms.specs.declared.sequent.Sequent.{Sequent}
use Rattle.ring_laws.specs.Expressions.{is_arithmetic}
use Rattle.ring_laws.specs.Polynomials.{SamePolynomial, same_polynomial}

-- `(equal a b)` without hypotheses
abbrev pub equality : Tm → Tm → Sequent
equality a b = record { universals = []; hyps = []; goal = call2 (codes "EQUAL") a b }

-- the coefficients of two terms are equal at every monomial exactly where they are so at each monomial of the two
abbrev pub SameDecides : Type 0
SameDecides = (a b : Tm) → IsTrue (same_polynomial a b) ↔ SamePolynomial a b

-- in a sound world, two arithmetic terms that are well formed and have the same coefficients are equal
abbrev pub RingLaw : Type 0
RingLaw =
    (W : World) → Sound W → (a b : Tm) → Fits W.functions a → Fits W.functions b →
    is_arithmetic a ≡ true → is_arithmetic b ≡ true → SamePolynomial a b → FitsSequent W.functions (equality a b) × Holds W.functions (equality a b)
