-- What multiplying out answers.
use Rattle.std.specs.Prelude.{◌≡◌, ℕ, ℤ, List, length, Option, Some, None, Result, Ok, Err, bytes_eq}
use Rattle.terms.specs.Terms.{Tm}
use Rattle.ring_laws.specs.declared.errors.RingError.{RingError}
use Rattle.ring_laws.specs.declared.errors.RingError.TheVariants.{TooWide, TooLarge, Memory}
use Rattle.ring_laws.specs.declared.expansion.Expansion.{Expansion}
use Rattle.ring_laws.specs.Expressions.{Expression}
use Rattle.ring_laws.specs.FormalSums.{support}
use Rattle.ring_laws.specs.Polynomials.{monomials, norm}
use Rattle.ring_laws.specs.Limits.{excess, first_excess}
use Rattle.ring_laws.specs.view.Held.{held, by_numbers, SameSum}

abbrev pub excess_at : ℕ → List (List ℕ × ℤ) → Option RingError
excess_at n es = excess n (length (support bytes_eq es))

-- it is the sum es with the norm n, or the limit that they pass
abbrev pub SaysSum : Result Expansion RingError → ℕ → List (List ℕ × ℤ) → Type 0
SaysSum (Ok x) n es = SameSum (held x.polynomial.terms.entries) es × (x.norm ≡ n) × (excess_at n es ≡ None)
SaysSum (Err TooWide) n es = excess_at n es ≡ Some TooWide
SaysSum (Err TooLarge) n es = excess_at n es ≡ Some TooLarge
SaysSum (Err Memory) n es = Unit {0}

-- it is the expression multiplied out, or the first limit that it passes
abbrev pub SaysExpansion : Result Expansion RingError → List Tm → Expression → Type 0
SaysExpansion (Ok x) table e =
    SameSum (held x.polynomial.terms.entries) (by_numbers table (monomials e)) × (x.norm ≡ norm e) × (first_excess e ≡ None)
SaysExpansion (Err TooWide) table e = first_excess e ≡ Some TooWide
SaysExpansion (Err TooLarge) table e = first_excess e ≡ Some TooLarge
SaysExpansion (Err Memory) table e = Unit {0}

-- it is no limit, or the one that is passed
abbrev pub SaysLimit : {A : Type 0} → Result A RingError → Option RingError → Type 0
SaysLimit (Ok x) o = o ≡ None
SaysLimit (Err TooWide) o = o ≡ Some TooWide
SaysLimit (Err TooLarge) o = o ≡ Some TooLarge
SaysLimit (Err Memory) o = Unit {0}
