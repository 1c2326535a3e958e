-- Functions in place of others in a term.
use Rattle.std.specs.Prelude.{◌≡◌, List, [], ◌∷◌, Option, Some, None}
use Rattle.std.specs.Option.{option_map}
use Rattle.std.specs.Coded.{Coded, coded_list, coded×, coded_ℕ}
use Rattle.lisp_data.specs.Values.{Name}
use Rattle.terms.specs.Primitives.{lookup}
use Rattle.terms.specs.Terms.{Tm, Var, Quote, Call, Tms, Done, More}
use Rattle.terms.specs.declared.definition.Definition.{Definition}

-- names for names
abbrev pub NamePairs : Type 0
NamePairs = List (Name × Name)

-- no name stands for two
abbrev pub HasDistinctNames : NamePairs → Type 0
HasDistinctNames [] = Unit {0}
HasDistinctNames (e ∷ m) = (lookup m e.0 ≡ None) × HasDistinctNames m

abbrev pub or_name : Name → Option Name → Name
or_name f None = f
or_name f (Some g) = g

-- what the map gives for the name; a name without a pair stays
abbrev pub image : NamePairs → Name → Name
image m f = or_name f (lookup m f)

-- the term with the names of its functions under the map, all at once
abbrev mutual
  pub rename : NamePairs → Tm → Tm
  rename m (Var x) = Var x
  rename m (Quote v) = Quote v
  rename m (Call f ts) = Call (image m f) (rename_all m ts)

  pub rename_all : NamePairs → Tms → Tms
  rename_all m Done = Done
  rename_all m (More t ts) = More (rename m t) (rename_all m ts)

-- a definition's instance under a map, which has the new name for the old one: body and measure are renamed, the formals stay
abbrev pub renamed : NamePairs → Name → Definition → Definition
renamed m name d = record { name = name; formals = d.formals; body = rename m d.body; measure = option_map (rename m) d.measure }

abbrev pub name_pairs_code : Coded NamePairs
name_pairs_code = coded_list (coded× (coded_list coded_ℕ) (coded_list coded_ℕ))
