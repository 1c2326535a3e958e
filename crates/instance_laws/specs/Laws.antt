-- The laws of instances.
use Rattle.std.specs.Prelude.{◌≡◌, ℕ, List, Some, None, Ok}
use Rattle.lisp_data.specs.Values.{Name, Val}
use Rattle.terms.specs.Terms.{Tm}
use Rattle.terms.specs.Definitions.{find, Interp}
use Rattle.terms.specs.Evaluation.{Env, eval}
use Rattle.terms.specs.Worlds.{World, Instance, FitsSequent, IsIn, names, arity, Holds}
use Rattle.terms.specs.Formed.{IsFormed, ObligationsHold}
use Rattle.terms.specs.Later.{IsLater}
use Rattle.terms.specs.Sound.{Sound, add_definition, instance_of}
use Rattle.terms.specs.declared.definition.Definition.{Definition}
use Rattle.terms.specs.declared.sequent.Sequent.{Sequent}
use Rattle.terms.specs.declared.entries.FunPair.{FunPair}
use Rattle.terms.specs.Maps.{NamePairs, HasDistinctNames, rename}
use Rattle.terms.specs.Instances.{map_from, instance_map, function_instance, sequent_terms, renamed_sequent, IsRecorded}
use Rattle.instance_laws.specs.Closed.{extended, CallsOnly, IsClosed, IsPart}

-- what a term that calls no definition outside the list has as value where function variables stand for what the map gives, is the value of
-- the term under the map
abbrev pub InstancesHaveValues : Type 0
InstancesHaveValues =
    (ds : List Definition) (m : NamePairs) (listed : List Name) → IsClosed ds m listed → (n : ℕ) (I : Interp) (t : Tm) → CallsOnly ds listed t →
    (env : Env) (v : Val) → eval n ds (extended ds m I) t env ≡ Some v → eval n ds I (rename m t) env ≡ Some v

-- a map that pairs give in a sound world is part of one that is closed under calls
abbrev pub MapsArePart : Type 0
MapsArePart =
    (W : World) → Sound W → (begun : NamePairs) → HasDistinctNames begun → (pairs : List FunPair) (fs : List Name) (m : NamePairs) →
    map_from W begun pairs fs ≡ Ok m → IsPart W.functions begun fs m

-- what the instance of a sequent is: it fits the world, and holds where the sequent does
pub record InstanceOfSequent (W : World) (s : Sequent) (m : NamePairs) : Type 0 where
  pub fits : FitsSequent W.functions (renamed_sequent m s)
  pub holds : Holds W.functions s → Holds W.functions (renamed_sequent m s)

abbrev pub InstancesHold : Type 0
InstancesHold =
    (W : World) → Sound W → (s : Sequent) → FitsSequent W.functions s → (pairs : List FunPair) (m : NamePairs) →
    instance_map W (sequent_terms s) pairs ≡ Ok m → InstanceOfSequent W s m

-- the instance of a definition of the world under a new name can be added, and what it owes holds
pub record InstanceOfDefinition (W : World) (i : Definition) : Type 0 where
  pub formed : IsFormed W.functions i
  pub owes : ObligationsHold W.functions i

abbrev pub InstancesOwe : Type 0
InstancesOwe =
    (W : World) → Sound W → (d : Definition) → find W.functions.defs d.name ≡ Some d →
    (pairs : List FunPair) (name : Name) → arity W.functions name ≡ None → (i : Definition) →
    function_instance W d pairs name ≡ Ok i → InstanceOfDefinition W i

-- a recorded instance is one in each later sound world
abbrev pub RecordsStay : Type 0
RecordsStay = (W V : World) → Sound W → Sound V → IsLater W V → (r : Instance) → IsRecorded W r → IsRecorded V r

-- what pairs give for the terms of a sequent they give, the same, in each later sound world
abbrev pub MapsStay : Type 0
MapsStay =
    (W V : World) → Sound W → Sound V → IsLater W V → (s : Sequent) → FitsSequent W.functions s → (pairs : List FunPair) (m : NamePairs) →
    instance_map W (sequent_terms s) pairs ≡ Ok m → instance_map V (sequent_terms s) pairs ≡ Ok m

-- a sound world stays sound with the instance of a definition under a new name, and this instance can be recorded there
pub record GrowsByInstance (W : World) (d : Definition) (pairs : List FunPair) (i : Definition) : Type 0 where
  pub sound : Sound (add_definition i W)
  pub recorded : IsRecorded (add_definition i W) (instance_of d.name pairs i.name)

abbrev pub WorldsGrowByInstances : Type 0
WorldsGrowByInstances =
    (W : World) → Sound W → (d : Definition) → find W.functions.defs d.name ≡ Some d →
    (pairs : List FunPair) (name : Name) → arity W.functions name ≡ None → (IsIn (names W) name → ⊥) → (i : Definition) →
    function_instance W d pairs name ≡ Ok i → GrowsByInstance W d pairs i
