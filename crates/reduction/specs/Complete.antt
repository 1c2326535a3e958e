-- Calls of functions of a world with as many arguments as they take.
use Rattle.std.specs.Prelude.{◌==◌, ℕ, Bool, false, Option, Some, None}
use Rattle.terms.specs.Terms.{Tm, Var, Quote, Call, count}
use Rattle.terms.specs.Worlds.{Functions, arity}

abbrev pub takes : Option ℕ → ℕ → Bool
takes None k = false
takes (Some n) k = n == k

-- the function that the term calls takes as many arguments
abbrev pub is_complete : Functions → Tm → Bool
is_complete W (Var x) = false
is_complete W (Quote v) = false
is_complete W (Call f ts) = takes (arity W f) (count ts)
