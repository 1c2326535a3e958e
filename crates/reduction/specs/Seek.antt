-- The first part of a term at which something is found.
use Rattle.std.specs.Prelude.{ℕ, suc, ◌+◌, Bool, false, [], ◌∷◌, reverse, Option, Some, None}
use Rattle.std.specs.Option.{option_map}
use Rattle.terms.specs.Terms.{Tm, Var, Quote, Call, Tms, Done, More}
use Rattle.terms.specs.Evaluation.{then_with}
use Rattle.reduction.specs.declared.found.Found.{Found}
use Rattle.reduction.specs.declared.found.At.{At}
use Rattle.reduction.specs.Finding.{or_else}

abbrev pub here : Tm → Option Found → Option At
here t o = then_with o (λ x. Some (record { path = []; part = t; found = x }))

-- in the argument of a number
abbrev pub placed : ℕ × At → At
placed r = record { path = r.0 ∷ r.1.path; part = r.1.part; found = r.1.found }

-- the arguments, from left to right, before their call
abbrev mutual
  pub seek : (Bool → Tm → Option Found) → Bool → Tm → Option At
  seek c whole (Var x) = here (Var x) (c whole (Var x))
  seek c whole (Quote v) = here (Quote v) (c whole (Quote v))
  seek c whole (Call f ts) = or_else (option_map placed (seek_in c ts)) (here (Call f ts) (c whole (Call f ts)))

  pub seek_in : (Bool → Tm → Option Found) → Tms → Option (ℕ × At)
  seek_in c Done = None
  seek_in c (More t ts) =
      or_else (then_with (seek c false t) (λ r. Some (1, r))) (then_with (seek_in c ts) (λ r. Some (suc r.0, r.1)))

-- in arguments that stand after so many others
abbrev pub shifted : ℕ → ℕ × At → ℕ × At
shifted i r = (i + r.0, r.1)

-- with the path the other way round: it is found from the part up
abbrev pub turned : At → At
turned r = record { path = reverse r.path; part = r.part; found = r.found }
