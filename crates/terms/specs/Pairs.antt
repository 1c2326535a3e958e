-- Which functions can stand for which function variables.
use Rattle.std.specs.Prelude.{◌≡◌, ℕ, Bool, false, ◌||◌, not, nat_eq, is_some, if◌then◌else◌, List, [], ◌∷◌, ◌++◌, map, Option, Some, Ok}
use Rattle.lisp_data.specs.Values.{Name}
use Rattle.terms.specs.Primitives.{primitive, lookup}
use Rattle.terms.specs.Worlds.{World, Functions, Each, names, is_in, arity}
use Rattle.terms.specs.declared.entries.FunPair.{FunPair}
use Rattle.terms.specs.Maps.{NamePairs, HasDistinctNames}
use Rattle.terms.specs.Refusals.{Outcome, and_then, unknown_name, wrong_kind, wrong_arity, repeated}

-- a primitive has the name, or the world gave it away
abbrev pub is_known : World → Name → Bool
is_known W n = is_some (primitive n) || is_in (names W) n

abbrev pub same_arity : Option ℕ → Option ℕ → Bool
same_arity (Some k) (Some l) = nat_eq k l
same_arity _ _ = false

-- nothing, or the first thing that is wrong with the pair: both names are known, the first is a function variable's, the second a
-- function's, of as many arguments
abbrev pub fitting_pair : World → FunPair → Outcome (Unit {0})
fitting_pair W p =
    if not (is_known W p.variable) then unknown_name p.variable
    else if not (is_known W p.function) then unknown_name p.function
    else if not (is_some (lookup W.functions.vars p.variable)) then wrong_kind p.variable
    else if not (is_some (arity W.functions p.function)) then wrong_kind p.function
    else if not (same_arity (lookup W.functions.vars p.variable) (arity W.functions p.function)) then wrong_arity p.function
    else Ok tt

-- the map with a further pair that fits, and whose variable is new
abbrev pub with_pair : World → NamePairs → FunPair → Outcome NamePairs
with_pair W m p =
    and_then (fitting_pair W p) (λ fits. if is_some (lookup m p.variable) then repeated p.variable else Ok (m ++ (p.variable, p.function) ∷ []))

-- the map with further pairs, or the first thing that is wrong with the first wrong one
abbrev pub with_pairs : World → NamePairs → List FunPair → Outcome NamePairs
with_pairs W m [] = Ok m
with_pairs W m (p ∷ ps) = and_then (with_pair W m p) (λ n. with_pairs W n ps)

-- the pairs, as names for names
abbrev pub name_pairs : List FunPair → NamePairs
name_pairs ps = map (λ p. (p.variable, p.function)) ps

-- the first is a function variable, and the second a function of as many arguments
abbrev pub IsFitting : Functions → FunPair → Type 0
IsFitting F p = (k : ℕ) × (lookup F.vars p.variable ≡ Some k) × (arity F p.function ≡ Some k)

-- pairs that are accepted fit one by one, the map has them as they are after what it began with, and no name stands twice in it where none
-- did before
pub record AreFitting (W : World) (begun : NamePairs) (pairs : List FunPair) (m : NamePairs) : Type 0 where
  pub as_given : m ≡ begun ++ name_pairs pairs
  pub distinct : HasDistinctNames begun → HasDistinctNames m
  pub fitting : Each (IsFitting W.functions) pairs
