-- What the code's polynomials hold: monomials by the numbers of their atoms.
use Rattle.std.specs.Prelude.{◌≡◌, ℕ, true, ℤ, List, [], ◌∷◌, ◌++◌, Vec, nat_le, bytes_eq, if◌then◌else◌}
use Rattle.std.specs.List.{list_any, position_or_len}
use Rattle.std.specs.declared.alloc.Global.{Global}
use Rattle.terms.specs.Terms.{Tm, same_tm}
use Rattle.ring_laws.specs.Expressions.{Expression, Literal, Atom, Sum, Product, Negation}
use Rattle.ring_laws.specs.FormalSums.{coefficient}
use Rattle.ring_laws.specs.Polynomials.{Monomials, count_in}

-- the number of an atom: its place in the list
abbrev pub number_of : List Tm → Tm → ℕ
number_of table a = position_or_len (same_tm a) table

-- a number put before the first that isn't less
abbrev pub put_in : ℕ → List ℕ → List ℕ
put_in n [] = n ∷ []
put_in n (x ∷ xs) = if nat_le n x then n ∷ x ∷ xs else x ∷ put_in n xs

-- the numbers of a multiset's atoms in order, each as often as the atom is in it
abbrev pub numbers : List Tm → List Tm → List ℕ
numbers table [] = []
numbers table (a ∷ m) = put_in (number_of table a) (numbers table m)

-- x ∷ xs and another list as one in order, where rest does so for xs
abbrev pub together_from : ℕ → List ℕ → (List ℕ → List ℕ) → List ℕ → List ℕ
together_from x xs rest [] = x ∷ xs
together_from x xs rest (y ∷ ys) = if nat_le x y then x ∷ rest (y ∷ ys) else y ∷ together_from x xs rest ys

-- the numbers of a product: two lists in order as one in order
abbrev pub together : List ℕ → List ℕ → List ℕ
together [] ys = ys
together (x ∷ xs) ys = together_from x xs (together xs) ys

-- the formal sum that a map holds
abbrev pub held : List (Vec ℕ Global × ℤ) → List (List ℕ × ℤ)
held [] = []
held (e ∷ es) = (e.0.items, e.1) ∷ held es

-- the monomials, each by its numbers
abbrev pub by_numbers : List Tm → Monomials → List (List ℕ × ℤ)
by_numbers table [] = []
by_numbers table (e ∷ es) = (numbers table e.0, e.1) ∷ by_numbers table es

-- the coefficients of the two are equal
pub record SameSum (es fs : List (List ℕ × ℤ)) : Type 0 where
  pub same : (k : List ℕ) → coefficient bytes_eq es k ≡ coefficient bytes_eq fs k

-- the list has each atom of the expression
abbrev pub HasAtoms : List Tm → Expression → Type 0
HasAtoms table (Literal n) = Unit {0}
HasAtoms table (Atom a) = list_any (same_tm a) table ≡ true
HasAtoms table (Sum p q) = HasAtoms table p × HasAtoms table q
HasAtoms table (Product p q) = HasAtoms table p × HasAtoms table q
HasAtoms table (Negation p) = HasAtoms table p

-- an atom at the end, where it is new
abbrev pub with_atom : Tm → List Tm → List Tm
with_atom a found = if list_any (same_tm a) found then found else found ++ a ∷ []

-- these atoms, and then those of the expression, each where it is new
abbrev pub with_atoms : Expression → List Tm → List Tm
with_atoms (Literal n) found = found
with_atoms (Atom a) found = with_atom a found
with_atoms (Sum p q) found = with_atoms q (with_atoms p found)
with_atoms (Product p q) found = with_atoms q (with_atoms p found)
with_atoms (Negation p) found = with_atoms p found
