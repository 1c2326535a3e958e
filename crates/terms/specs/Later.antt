-- Later worlds.
use Rattle.std.specs.Prelude.{◌≡◌, ℕ, List, ◌++◌, Some}
use Rattle.lisp_data.specs.Values.{Name}
use Rattle.terms.specs.Primitives.{lookup}
use Rattle.terms.specs.Definitions.{find}
use Rattle.terms.specs.Dependence.{dependence}
use Rattle.terms.specs.Worlds.{World, arity}
use Rattle.terms.specs.declared.sequent.Sequent.{Sequent}

-- the second list is the first with further items before it
abbrev pub IsGrown : {A : Type 0} → List A → List A → Type 0
IsGrown {A = A} xs ys = (newer : List A) × (ys ≡ newer ++ xs)

-- the same with further items after it
abbrev pub IsContinued : {A : Type 0} → List A → List A → Type 0
IsContinued {A = A} xs ys = (newer : List A) × (ys ≡ xs ++ newer)

-- V has all that W has, and maybe more
pub record IsLater (W V : World) : Type 0 where
  pub definitions : IsGrown W.functions.defs V.functions.defs
  pub variables : IsGrown W.functions.vars V.functions.vars
  pub theorems : IsGrown W.theorems V.theorems
  pub specifications : IsGrown W.specifications V.specifications
  pub isos : IsGrown W.isos V.isos
  pub instances : IsContinued W.instances V.instances
  pub links : IsGrown W.links V.links
  pub events : IsGrown W.events V.events

-- what each name of W is in V: the same
pub record Stays (W V : World) : Type 0 where
  pub arities : (f : Name) (k : ℕ) → arity W.functions f ≡ Some k → arity V.functions f ≡ Some k
  pub found : (f : Name) (k : ℕ) → arity W.functions f ≡ Some k → find V.functions.defs f ≡ find W.functions.defs f
  pub variables_stay : (x : Name) (k : ℕ) → lookup W.functions.vars x ≡ Some k → lookup V.functions.vars x ≡ Some k
  pub dependences : (f : Name) (k : ℕ) → arity W.functions f ≡ Some k → dependence V.functions.vars V.functions.defs f ≡ dependence W.functions.vars W.functions.defs f
  pub theorems_stay : (n : Name) (s : Sequent) → lookup W.theorems n ≡ Some s → lookup V.theorems n ≡ Some s
