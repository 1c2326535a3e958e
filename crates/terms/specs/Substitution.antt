-- Substitutions as lists of pairs.
use Rattle.std.specs.Prelude.{◌≡◌, List, [], ◌∷◌, Option, Some, None}
use Rattle.std.specs.Coded.{Coded, coded_list, coded×, coded_ℕ}
use Rattle.lisp_data.specs.Values.{Name}
use Rattle.terms.specs.Terms.{Tm, Var, tm_code}
use Rattle.terms.specs.Primitives.{lookup}

-- terms for variables
abbrev pub Pairs : Type 0
Pairs = List (Name × Tm)

abbrev pub or_var : Name → Option Tm → Tm
or_var x None = Var x
or_var x (Some t) = t

-- the term of a variable; one without a pair stays
abbrev pub by_pairs : Pairs → Name → Tm
by_pairs s x = or_var x (lookup s x)

-- no variable stands twice
abbrev pub HasDistinctKeys : Pairs → Type 0
HasDistinctKeys [] = Unit {0}
HasDistinctKeys (e ∷ s) = (lookup s e.0 ≡ None) × HasDistinctKeys s

abbrev pub pairs_code : Coded Pairs
pairs_code = coded_list (coded× (coded_list coded_ℕ) tm_code)
