-- The variables of a term.
use Rattle.std.specs.Prelude.{List, [], ◌∷◌, ◌++◌, bytes_eq, if◌then◌else◌}
use Rattle.std.specs.List.{list_any}
use Rattle.lisp_data.specs.Values.{Name}
use Rattle.terms.specs.Terms.{Tm, Var, Quote, Call, Tms, Done, More}

-- the names, with x after them unless it is there
abbrev pub with_name : Name → List Name → List Name
with_name x found = if list_any (bytes_eq x) found then found else (found ++ x ∷ [])

-- the names, with the variables of the term after them, each once
abbrev mutual
  pub with_variables : Tm → List Name → List Name
  with_variables (Var x) found = with_name x found
  with_variables (Quote v) found = found
  with_variables (Call f ts) found = with_variables_in ts found

  pub with_variables_in : Tms → List Name → List Name
  with_variables_in Done found = found
  with_variables_in (More t ts) found = with_variables_in ts (with_variables t found)

-- the variables of the term, each once, in the order in which they first stand
abbrev pub variables_of : Tm → List Name
variables_of t = with_variables t []
