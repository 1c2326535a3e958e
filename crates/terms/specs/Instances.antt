-- The map that pairs give, by the instances that are recorded, and the instances of terms and functions.
use Rattle.std.specs.Prelude.{◌≡◌, cond, is_some, if◌then◌else◌, List, [], ◌∷◌, ◌++◌, map, Option, Some, None, Ok}
use Rattle.lisp_data.specs.Values.{Name}
use Rattle.terms.specs.Primitives.{lookup}
use Rattle.terms.specs.Terms.{Tm, Var, Quote, Call, Tms, Done, More, tms}
use Rattle.terms.specs.Variables.{with_name}
use Rattle.terms.specs.Definitions.{find}
use Rattle.terms.specs.Joins.{without_repeats}
use Rattle.terms.specs.Worlds.{World, Instance, is_in}
use Rattle.terms.specs.declared.definition.Definition.{Definition}
use Rattle.terms.specs.declared.sequent.Sequent.{Sequent}
use Rattle.terms.specs.declared.entries.FunPair.{FunPair}
use Rattle.terms.specs.Records.{find_instance}
use Rattle.terms.specs.Maps.{NamePairs, rename, renamed}
use Rattle.terms.specs.Refusals.{Outcome, and_then, map_outcome, no_instance}
use Rattle.terms.specs.Dependence.{function_dependence}
use Rattle.terms.specs.Pairs.{with_pairs}

-- the names, with those of the functions that the term calls after them, each once
abbrev mutual
  pub with_calls : Tm → List Name → List Name
  with_calls (Var x) found = found
  with_calls (Quote v) found = found
  with_calls (Call f ts) found = with_calls_in ts (with_name f found)

  pub with_calls_in : Tms → List Name → List Name
  with_calls_in Done found = found
  with_calls_in (More t ts) found = with_calls_in ts (with_calls t found)

-- the names that the terms call, each once, in the order in which they first stand
abbrev pub called : List Tm → List Name
called ts = with_calls_in (tms ts) []

-- the pairs of these variables
abbrev pub restricted : List FunPair → List Name → List FunPair
restricted [] xs = []
restricted (p ∷ ps) xs = cond (is_in xs p.variable) (p ∷ restricted ps xs) (restricted ps xs)

-- the pairs of the variables on which a function depends
abbrev pub own_pairs : World → List FunPair → Name → List FunPair
own_pairs W pairs f = restricted pairs (function_dependence W f)

-- what a function becomes by its own pairs: where there are none it stays, and else it is its recorded instance for them
abbrev pub recorded : World → Name → List FunPair → Option Name
recorded W f [] = Some f
recorded W f (p ∷ ps) = find_instance W.instances f (p ∷ ps)

abbrev pub with_recorded : NamePairs → Name → Option Name → Outcome NamePairs
with_recorded m f None = no_instance f
with_recorded m f (Some g) = Ok (m ++ (f, g) ∷ [])

-- the map with the function's recorded instance, where it has pairs of its own
abbrev pub by_own_pairs : World → NamePairs → Name → List FunPair → Outcome NamePairs
by_own_pairs W m f [] = Ok m
by_own_pairs W m f (p ∷ ps) = with_recorded m f (find_instance W.instances f (p ∷ ps))

-- the map with what it needs for a function that it doesn't have
abbrev pub with_instance : World → List FunPair → NamePairs → Name → Outcome NamePairs
with_instance W pairs m f = if is_some (lookup m f) then Ok m else by_own_pairs W m f (own_pairs W pairs f)

-- the map with what it needs for these functions, or the first of them that has no instance
abbrev pub with_instances : World → List FunPair → NamePairs → List Name → Outcome NamePairs
with_instances W pairs m [] = Ok m
with_instances W pairs m (f ∷ fs) = and_then (with_instance W pairs m f) (λ n. with_instances W pairs n fs)

-- the map that begins so, with the pairs and with what it needs for these functions, or the first refusal
abbrev pub map_from : World → NamePairs → List FunPair → List Name → Outcome NamePairs
map_from W begun pairs fs = and_then (with_pairs W begun pairs) (λ m. with_instances W pairs m fs)

-- the map for some terms: each variable becomes its function, and each function with pairs of its own its recorded instance
abbrev pub instance_map : World → List Tm → List FunPair → Outcome NamePairs
instance_map W ts pairs = map_from W [] pairs (called ts)

abbrev pub listed : Option Tm → List Tm
listed None = []
listed (Some t) = t ∷ []

-- a definition's terms: its body, then its measure
abbrev pub parts : Definition → List Tm
parts d = d.body ∷ listed d.measure

-- a definition's instance of a new name: the function itself becomes the new one, and needs no instance
abbrev pub function_instance : World → Definition → List FunPair → Name → Outcome Definition
function_instance W d pairs name = map_outcome (λ m. renamed m name d) (map_from W ((d.name, name) ∷ []) pairs (called (parts d)))

-- a sequent's terms: universals, hypotheses, goal
abbrev pub sequent_terms : Sequent → List Tm
sequent_terms s = s.universals ++ (s.hyps ++ s.goal ∷ [])

-- a sequent under a map, in which no term stands twice in a list
abbrev pub renamed_sequent : NamePairs → Sequent → Sequent
renamed_sequent m s = record {
  universals = without_repeats (map (rename m) s.universals);
  hyps = without_repeats (map (rename m) s.hyps);
  goal = rename m s.goal;
}

-- a recorded instance is the one that its pairs give
pub record IsRecorded (W : World) (i : Instance) : Type 0 where
  pub origin : Definition
  pub found : find W.functions.defs i.of ≡ Some origin
  pub instance : Definition
  pub made : find W.functions.defs i.instance ≡ Some instance
  pub gives : function_instance W origin i.pairs i.instance ≡ Ok instance
