-- The laws of the model.
use Rattle.std.specs.Prelude.{◌≡◌, true, false, ℕ, ◌≤◌, List, [], ◌∷◌, Some, None}
use Rattle.lisp_data.specs.Values.{Name, Val}
use Rattle.lisp_data.specs.Datum.{Datum}
use Rattle.terms.specs.Primitives.{primitive, lookup}
use Rattle.terms.specs.Terms.{Tm, substitute}
use Rattle.terms.specs.Definitions.{find, Interp}
use Rattle.terms.specs.Evaluation.{Env, eval}
use Rattle.terms.specs.Worlds.{Functions, World, FitsSequent, IsIn, names, arity, Total, Fits, Holds}
use Rattle.terms.specs.Measures.{mentions}
use Rattle.terms.specs.Formed.{with_def, IsFormed, AllFormed, FitsOver, HasBasics, ObligationsHold}
use Rattle.terms.specs.Later.{IsLater, Stays}
use Rattle.terms.specs.Dependence.{dependence}
use Rattle.terms.specs.Instances.{IsRecorded}
use Rattle.terms.specs.Links.{IsFirstOrder, IsLinked}
use Rattle.terms.specs.BuiltIn.{initial_definitions}
use Rattle.terms.specs.InitialTheorems.{initial_theorems}
use Rattle.terms.specs.Sound.{Sound, AllHold, iso_conditions, initial_world, add_definition, add_variable, add_theorem, add_specification, add_iso, instance_of, add_instance, add_link, add_event}
use Rattle.terms.specs.declared.definition.Definition.{Definition}
use Rattle.terms.specs.declared.entries.Specification.{Specification}
use Rattle.terms.specs.declared.entries.Iso.{Iso}
use Rattle.terms.specs.declared.entries.FunPair.{FunPair}
use Rattle.terms.specs.declared.entries.Link.{Link}
use Rattle.terms.specs.declared.sequent.Sequent.{Sequent}

-- a value at n is the value at each larger n
abbrev pub ValuesStay : Type 0
ValuesStay = (n m : ℕ) → n ≤ m → (ds : List Definition) (I : Interp) (t : Tm) (env : Env) (v : Val) → eval n ds I t env ≡ Some v → eval m ds I t env ≡ Some v

-- evaluation under a substitution is evaluation where each variable has the value of its term
abbrev pub SubstitutionLaw : Type 0
SubstitutionLaw = (n : ℕ) (ds : List Definition) (I : Interp) (s : Name → Tm) (env : Env) (t : Tm) → eval n ds I (substitute s t) env ≡ eval n ds I t (λ x. eval n ds I (s x) env)

-- a definition that is added later changes no value
abbrev pub LaterDefinitions : Type 0
LaterDefinitions =
    (W : Functions) → AllFormed W.vars W.defs → (d : Definition) → IsFormed W d → (n : ℕ) (I : Interp) (t : Tm) → Fits W t → (env : Env) → eval n (d ∷ W.defs) I t env ≡ eval n W.defs I t env

-- a definition whose obligations hold leaves the world total
abbrev pub StaysTotal : Type 0
StaysTotal =
    (W : Functions) → AllFormed W.vars W.defs → Total W → (d : Definition) → IsFormed W d → (mentions d.name d.body ≡ true → HasBasics W) → ObligationsHold W d → Total (with_def W d)

-- a definition that isn't recursive leaves the world total
abbrev pub StaysTotalFlat : Type 0
StaysTotalFlat =
    (W : Functions) → AllFormed W.vars W.defs → Total W → (d : Definition) → IsFormed W d → mentions d.name d.body ≡ false → Total (with_def W d)

-- The world that each book begins with is sound. A sound world stays so with a definition whose obligations hold, with a function variable,
-- with a theorem that holds, with a specification whose matrix has no variables but its own and with an isomorphism whose conditions hold and whose functions depend on no function variable,
-- each under a new name; with an instance that is the one that its pairs give; with a link whose theorem says what the link does; and with
-- an event.
pub record WorldsGrow : Type 0 where
  pub begins : Sound initial_world
  pub definition : (W : World) → Sound W → (d : Definition) → IsFormed W.functions d → (IsIn (names W) d.name → ⊥) → ObligationsHold W.functions d → Sound (add_definition d W)
  pub variable : (W : World) → Sound W → (x : Name) (k : ℕ) → arity W.functions x ≡ None → (IsIn (names W) x → ⊥) → Sound (add_variable x k W)
  pub theorem : (W : World) → Sound W → (n : Name) (s : Sequent) → primitive n ≡ None → (IsIn (names W) n → ⊥) → s.hyps ≡ [] → FitsSequent W.functions s → Holds W.functions s → Sound (add_theorem n s W)
  pub specification : (W : World) → Sound W → (s : Specification) → primitive s.name ≡ None → (IsIn (names W) s.name → ⊥) → FitsOver W.functions s.variables s.matrix → Sound (add_specification s W)
  pub iso : (W : World) → Sound W → (i : Iso) → primitive i.name ≡ None → (IsIn (names W) i.name → ⊥) → AllHold W.functions (iso_conditions i) → IsFirstOrder W i → Sound (add_iso i W)
  pub instance : (W : World) → Sound W → (of : Name) (pairs : List FunPair) (instance : Name) → IsRecorded W (instance_of of pairs instance) → Sound (add_instance of pairs instance W)
  pub link : (W : World) → Sound W → (n : Name) (l : Link) → IsLinked W n l → Sound (add_link n l W)
  pub event : (W : World) → Sound W → (e : Datum) → Sound (add_event e W)

-- what a sound world's names are stays in each later sound world
abbrev pub LaterWorldsKeep : Type 0
LaterWorldsKeep = (W V : World) → Sound W → Sound V → IsLater W V → Stays W V

-- each initial definition and theorem is found under its name, and no initial function depends on a function variable
pub record KeepsInitial (W : World) : Type 0 where
  pub definitions : (f : Name) (d : Definition) → find initial_definitions f ≡ Some d → find W.functions.defs f ≡ Some d
  pub independent : (f : Name) (d : Definition) → find initial_definitions f ≡ Some d → dependence W.functions.vars W.functions.defs f ≡ []
  pub theorems : (n : Name) (s : Sequent) → lookup initial_theorems n ≡ Some s → lookup W.theorems n ≡ Some s

abbrev pub SoundWorldsKeepInitial : Type 0
SoundWorldsKeepInitial = (W : World) → Sound W → KeepsInitial W
