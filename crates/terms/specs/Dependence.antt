-- The function variables on which functions depend, directly or through definitions.
use Rattle.std.specs.Prelude.{ℕ, cond, List, [], ◌∷◌, ◌++◌, bytes_eq, Option, Some, None}
use Rattle.lisp_data.specs.Values.{Name}
use Rattle.terms.specs.Primitives.{lookup}
use Rattle.terms.specs.Terms.{Tm, Var, Quote, Call, Tms, Done, More}
use Rattle.terms.specs.Worlds.{World}
use Rattle.terms.specs.declared.definition.Definition.{Definition}

-- those of a term's calls, in the order of the text, where each name has some
abbrev mutual
  pub term_dependence : (Name → List Name) → Tm → List Name
  term_dependence of_name (Var x) = []
  term_dependence of_name (Quote v) = []
  term_dependence of_name (Call f ts) = of_name f ++ terms_dependence of_name ts

  pub terms_dependence : (Name → List Name) → Tms → List Name
  terms_dependence of_name Done = []
  terms_dependence of_name (More t ts) = term_dependence of_name t ++ terms_dependence of_name ts

abbrev pub measure_dependence : (Name → List Name) → Option Tm → List Name
measure_dependence of_name None = []
measure_dependence of_name (Some m) = term_dependence of_name m

abbrev pub itself : Name → Option ℕ → List Name
itself f None = []
itself f (Some k) = f ∷ []

-- a definition depends on what its body and then its measure do, a function variable on itself, another name on nothing; some may come
-- more than once
abbrev pub dependence : List (Name × ℕ) → List Definition → Name → List Name
dependence vars [] f = itself f (lookup vars f)
dependence vars (d ∷ ds) f =
    cond (bytes_eq d.name f) (term_dependence (dependence vars ds) d.body ++ measure_dependence (dependence vars ds) d.measure) (dependence vars ds f)

-- the function variables on which a function of the world depends; some may come more than once
abbrev pub function_dependence : World → Name → List Name
function_dependence W = dependence W.functions.vars W.functions.defs
