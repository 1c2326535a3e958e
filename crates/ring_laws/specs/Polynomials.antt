-- The polynomial of a term: its monomials, which are multisets of atoms, and their coefficients.
use Rattle.std.specs.Prelude.{◌≡◌, ◌+◌, ◌*◌, ℕ, suc, Bool, ℤ, pos, nat_abs, nat_eq, List, [], ◌∷◌, ◌++◌, if◌then◌else◌}
use Rattle.std.specs.List.{list_all}
use Rattle.terms.specs.Terms.{Tm, same_tm}
use Rattle.ring_laws.specs.Expressions.{Expression, Literal, Atom, Sum, Product, Negation, expression}
use Rattle.ring_laws.specs.FormalSums.{coefficient, coefficients_agree, negated, products}

-- how often an atom is in a list
abbrev pub count_in : Tm → List Tm → ℕ
count_in a [] = 0
count_in a (b ∷ bs) = if same_tm a b then suc (count_in a bs) else count_in a bs

-- the two lists are the same multiset: each atom is as often in one as in the other
abbrev pub alike : List Tm → List Tm → Bool
alike k m = list_all (λ a. nat_eq (count_in a k) (count_in a m)) (k ++ m)

-- lists of atoms, each standing for their product, with integer factors
abbrev pub Monomials : Type 0
Monomials = List (List Tm × ℤ)

-- the expression multiplied out, like monomials not put together
abbrev pub monomials : Expression → Monomials
monomials (Literal n) = ([], n) ∷ []
monomials (Atom a) = (a ∷ [], pos 1) ∷ []
monomials (Sum p q) = monomials p ++ monomials q
monomials (Product p q) = products (λ k m. k ++ m) (monomials p) (monomials q)
monomials (Negation p) = negated (monomials p)

-- the coefficient of a term at a monomial
abbrev pub coefficient_at : Tm → List Tm → ℤ
coefficient_at t m = coefficient alike (monomials (expression t)) m

-- the coefficients of the two terms are equal at every monomial
abbrev pub SamePolynomial : Tm → Tm → Type 0
SamePolynomial a b = (m : List Tm) → coefficient_at a m ≡ coefficient_at b m

-- they are equal at each monomial of the two
abbrev pub same_polynomial : Tm → Tm → Bool
same_polynomial a b = coefficients_agree alike (monomials (expression a)) (monomials (expression b))

-- the sum of the coefficients' absolute values, at most
abbrev pub norm : Expression → ℕ
norm (Literal n) = nat_abs n
norm (Atom a) = 1
norm (Sum p q) = norm p + norm q
norm (Product p q) = norm p * norm q
norm (Negation p) = norm p
