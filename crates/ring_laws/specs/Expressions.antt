-- Terms read as expressions of a ring.
use Rattle.std.specs.Prelude.{Bool, true, false, ℤ, List, [], ◌∷◌, bytes_eq, codes, if◌then◌else◌}
use Rattle.lisp_data.specs.Values.{Name, Val, Int, Sym, Pair}
use Rattle.terms.specs.Terms.{Tm, Var, Quote, Call, Tms, Done, More}

-- sums, products and negations of integers and atoms
pub data Expression : Type 0 where
  Literal : ℤ → Expression
  Atom : Tm → Expression
  Sum : Expression → Expression → Expression
  Product : Expression → Expression → Expression
  Negation : Expression → Expression

-- a quoted value: an integer, or else an atom
abbrev pub of_value : Val → Expression
of_value (Int n) = Literal n
of_value (Sym s) = Atom (Quote (Sym s))
of_value (Pair a b) = Atom (Quote (Pair a b))

-- a call of f on one argument, which is read as p
abbrev pub of_one : Name → Tm → Expression → Expression
of_one f t p = if bytes_eq f (codes "UNARY--") then Negation p else Atom t

-- a call of f on two arguments, which are read as p and q
abbrev pub of_two : Name → Tm → Expression → Expression → Expression
of_two f t p q =
    if bytes_eq f (codes "BINARY-+") then Sum p q else (if bytes_eq f (codes "BINARY-*") then Product p q else Atom t)

-- a call t of f, from what its arguments are read as: what is no arithmetic is an atom
abbrev pub of_call : Name → Tm → List Expression → Expression
of_call f t (p ∷ []) = of_one f t p
of_call f t (p ∷ q ∷ []) = of_two f t p q
of_call f t _ = Atom t

abbrev mutual
  pub expression : Tm → Expression
  expression (Var x) = Atom (Var x)
  expression (Quote v) = of_value v
  expression (Call f ts) = of_call f (Call f ts) (expressions ts)

  pub expressions : Tms → List Expression
  expressions Done = []
  expressions (More t ts) = expression t ∷ expressions ts

-- an integer, or a sum, product or negation
abbrev pub is_ring : Expression → Bool
is_ring (Atom t) = false
is_ring _ = true

-- a quoted integer, or a call of `binary-+`, `binary-*` or `unary--`
abbrev pub is_arithmetic : Tm → Bool
is_arithmetic t = is_ring (expression t)
