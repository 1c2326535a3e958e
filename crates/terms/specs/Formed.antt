-- Well-formed definitions and worlds.
use Rattle.std.specs.Prelude.{◌≡◌, ℕ, true, false, List, [], ◌∷◌, is_some, codes, Some, None, IfSome}
use Rattle.lisp_data.specs.Values.{Name}
use Rattle.terms.specs.Primitives.{primitive, lookup}
use Rattle.terms.specs.Terms.{Tm, Over}
use Rattle.terms.specs.declared.definition.Definition.{Definition}
use Rattle.terms.specs.Definitions.{find}
use Rattle.terms.specs.Worlds.{Functions, arity, IsIn, Distinct, Each, Holds}
use Rattle.terms.specs.Measures.{mentions, is_nested, obligations}
use Rattle.terms.specs.BuiltIn.{not_def, implies_def, natp_def}

-- the world with a further definition
abbrev pub with_def : Functions → Definition → Functions
with_def W d = record { defs = d ∷ W.defs; vars = W.vars }

abbrev pub FitsOver : Functions → List Name → Tm → Type 0
FitsOver W formals = Over (IsIn formals) (λ f k. arity W f ≡ Some k)

-- a definition that is well formed over a world
pub record IsWellFormed (W : Functions) (d : Definition) : Type 0 where
  pub formals : Distinct d.formals
  pub body : FitsOver (with_def W d) d.formals d.body
  pub measure : IfSome d.measure (FitsOver W d.formals)
  pub measured : mentions d.name d.body ≡ true → is_some d.measure ≡ true
  pub flat : is_nested d.name d.body ≡ false

-- the same, where its name is new
pub record IsFormed (W : Functions) (d : Definition) : Type 0 where
  pub fresh : arity W d.name ≡ None
  pub formals : Distinct d.formals
  pub body : FitsOver (with_def W d) d.formals d.body
  pub measure : IfSome d.measure (FitsOver W d.formals)
  pub measured : mentions d.name d.body ≡ true → is_some d.measure ≡ true
  pub flat : is_nested d.name d.body ≡ false

abbrev pub functions : List (Name × ℕ) → List Definition → Functions
functions vars ds = record { defs = ds; vars = vars }

-- each definition is one that can be added to those before it
abbrev pub AllFormed : List (Name × ℕ) → List Definition → Type 0
AllFormed vars [] = Unit {0}
AllFormed vars (d ∷ ds) = IsFormed (functions vars ds) d × AllFormed vars ds

-- the world has the definitions that obligations speak with
pub record HasBasics (W : Functions) : Type 0 where
  pub has_not : find W.defs (codes "NOT") ≡ Some not_def
  pub has_implies : find W.defs (codes "IMPLIES") ≡ Some implies_def
  pub has_natp : find W.defs (codes "NATP") ≡ Some natp_def

abbrev pub ObligationsHold : Functions → Definition → Type 0
ObligationsHold W d = Each (Holds W) (obligations d)

-- a function variable has the name of no primitive and no definition
abbrev pub VarsApart : Functions → Type 0
VarsApart F = (x : Name) (k : ℕ) → lookup F.vars x ≡ Some k → (primitive x ≡ None) × (find F.defs x ≡ None)

abbrev pub with_var : Functions → Name → ℕ → Functions
with_var W x k = record { defs = W.defs; vars = (x, k) ∷ W.vars }
