-- The function variables on which terms depend, and functions and specifications.
use Rattle.std.specs.Prelude.{List, [], ◌∷◌, Option, Some, None}
use Rattle.lisp_data.specs.Values.{Name}
use Rattle.terms.specs.Terms.{Tm, tms}
use Rattle.terms.specs.Variables.{with_name}
use Rattle.terms.specs.Dependence.{term_dependence, terms_dependence, function_dependence}
use Rattle.terms.specs.Worlds.{World}
use Rattle.terms.specs.declared.entries.Specification.{Specification}
use Rattle.worlds.specs.Lookups.{find_spec}

-- the first list, and what is new of the second
abbrev pub joined : List Name → List Name → List Name
joined found [] = found
joined found (x ∷ xs) = joined (with_name x found) xs

-- each name once, at its first place
abbrev pub each_once : List Name → List Name
each_once xs = joined [] xs

-- those of the terms, each once, in the order in which they are first met
abbrev pub variables_in : World → List Tm → List Name
variables_in W ts = each_once (terms_dependence (function_dependence W) (tms ts))

-- a specification depends on what its matrix does
abbrev pub dependence_of : World → Option Specification → Name → List Name
dependence_of W None n = function_dependence W n
dependence_of W (Some s) n = term_dependence (function_dependence W) s.matrix

-- those of a function or a specification, each once, in the order in which they are first met
abbrev pub variables_of : World → Name → List Name
variables_of W n = each_once (dependence_of W (find_spec W.specifications n) n)
