-- Terms that are well formed in a world, as a test.
use Rattle.std.specs.Prelude.{◌&&◌, ◌==◌, ℕ, Bool, true, false, Option, Some, None}
use Rattle.std.specs.List.{list_all}
use Rattle.terms.specs.Terms.{Tm, Var, Quote, Call, Tms, Done, More, count}
use Rattle.terms.specs.Substitution.{Pairs}
use Rattle.terms.specs.Worlds.{Functions, arity}

-- a function of this arity takes so many arguments
abbrev pub takes : Option ℕ → ℕ → Bool
takes None k = false
takes (Some n) k = n == k

-- each call is of a function of the world, with as many arguments as it takes
abbrev mutual
  pub fits : Functions → Tm → Bool
  fits W (Var x) = true
  fits W (Quote v) = true
  fits W (Call f ts) = takes (arity W f) (count ts) && fit_all W ts

  pub fit_all : Functions → Tms → Bool
  fit_all W Done = true
  fit_all W (More t ts) = fits W t && fit_all W ts

-- the terms for the variables are well formed
abbrev pub pairs_fit : Functions → Pairs → Bool
pairs_fit W s = list_all (λ e. fits W e.1) s
