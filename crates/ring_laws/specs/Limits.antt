-- The limits of a comparison.
use Rattle.std.specs.Prelude.{ℕ, ◌-◌, ◌^◌, nat_lt, length, Option, Some, None, if◌then◌else◌}
use Rattle.std.specs.Option.{option_or}
use Rattle.terms.specs.Terms.{Tm}
use Rattle.ring_laws.specs.declared.errors.RingError.{RingError}
use Rattle.ring_laws.specs.declared.errors.RingError.TheVariants.{TooWide, TooLarge}
use Rattle.ring_laws.specs.Expressions.{Expression, Literal, Atom, Sum, Product, Negation, expression}
use Rattle.ring_laws.specs.FormalSums.{support}
use Rattle.ring_laws.specs.Polynomials.{alike, monomials, norm}
use Rattle.ring_laws.specs.declared.limits.TheConstants.{MAX_MONOMIALS, MAX_NORM}

-- the limit that is passed: the norm's, and else that of the monomials whose coefficient isn't 0
abbrev pub excess : ℕ → ℕ → Option RingError
excess n count =
    if nat_lt MAX_NORM n then Some TooWide else (if nat_lt MAX_MONOMIALS count then Some TooLarge else None)

-- the limit that the whole expression passes
abbrev pub own_excess : Expression → Option RingError
own_excess e = excess (norm e) (length (support alike (monomials e)))

-- the first limit that is passed, where the parts of an expression are looked at before it, from left to right
abbrev pub first_excess : Expression → Option RingError
first_excess (Literal n) = own_excess (Literal n)
first_excess (Atom a) = own_excess (Atom a)
first_excess (Sum p q) = option_or (first_excess p) (option_or (first_excess q) (own_excess (Sum p q)))
first_excess (Product p q) = option_or (first_excess p) (option_or (first_excess q) (own_excess (Product p q)))
first_excess (Negation p) = option_or (first_excess p) (own_excess (Negation p))

-- the first limit that a comparison of two terms passes
abbrev pub excess_of : Tm → Tm → Option RingError
excess_of a b = option_or (first_excess (expression a)) (first_excess (expression b))
