-- Worlds as data, and the sequents that hold in them.
use Rattle.std.specs.Prelude.{◌≡◌, ◌≢◌, ℕ, Bool, false, cond, List, [], ◌∷◌, ◌++◌, map, length, ◌||◌, bytes_eq, Option, Some, None}
use Rattle.lisp_data.specs.Values.{Name, Val, nil}
use Rattle.lisp_data.specs.Datum.{Datum}
use Rattle.terms.specs.Primitives.{Operation, operands, primitive, lookup}
use Rattle.terms.specs.Terms.{Tm, Over}
use Rattle.terms.specs.Definitions.{find, Interp}
use Rattle.terms.specs.Evaluation.{variable, below, apply, eval}
use Rattle.terms.specs.declared.definition.Definition.{Definition}
use Rattle.terms.specs.declared.sequent.Sequent.{Sequent}
use Rattle.terms.specs.declared.entries.Specification.{Specification}
use Rattle.terms.specs.declared.entries.Iso.{Iso}
use Rattle.terms.specs.declared.entries.FunPair.{FunPair}
use Rattle.terms.specs.declared.entries.Link.{Link}

abbrev pub Each : {A : Type 0} → (A → Type 0) → List A → Type 0
Each P [] = Unit {0}
Each P (x ∷ xs) = P x × Each P xs

abbrev pub IsIn : List Name → Name → Type 0
IsIn [] x = ⊥
IsIn (y ∷ ys) x = cond (bytes_eq y x) (Unit {0}) (IsIn ys x)

abbrev pub is_in : List Name → Name → Bool
is_in [] a = false
is_in (b ∷ bs) a = bytes_eq b a || is_in bs a

-- no name stands twice
abbrev pub Distinct : List Name → Type 0
Distinct [] = Unit {0}
Distinct (x ∷ xs) = (IsIn xs x → ⊥) × Distinct xs

-- definitions, the newest first, and function variables with their arities
pub record Functions : Type 0 where
  pub defs : List Definition
  pub vars : List (Name × ℕ)

-- a function's instance for some pairs of a variable and a function
pub record Instance : Type 0 where
  pub of : Name
  pub pairs : List FunPair
  pub instance : Name

-- what a book has made so far: each list has the newest first, but the instances, which have the earliest first
pub record World : Type 0 where
  pub functions : Functions
  pub theorems : List (Name × Sequent)
  pub specifications : List Specification
  pub isos : List Iso
  pub instances : List Instance
  pub links : List (Name × Link)
  pub events : List Datum

-- the names that were given
abbrev pub names : World → List Name
names W =
    map (λ d. d.name) W.functions.defs ++ (map (λ v. v.0) W.functions.vars
    ++ (map (λ t. t.0) W.theorems ++ (map (λ s. s.name) W.specifications ++ map (λ i. i.name) W.isos)))

abbrev pub arity_by : Option Operation → Option Definition → Option ℕ → Option ℕ
arity_by (Some p) d v = Some (operands p)
arity_by None (Some d) v = Some (length d.formals)
arity_by None None v = v

-- how many arguments a function of the world takes
abbrev pub arity : Functions → Name → Option ℕ
arity W f = arity_by (primitive f) (find W.defs f) (lookup W.vars f)

-- the term's calls are of functions of the world, each with its number of arguments
abbrev pub Fits : Functions → Tm → Type 0
Fits W = Over (λ x. Unit {0}) (λ f k. arity W f ≡ Some k)

pub record FitsSequent (W : Functions) (s : Sequent) : Type 0 where
  pub universals : Each (Fits W) s.universals
  pub hyps : Each (Fits W) s.hyps
  pub goal : Fits W s.goal

-- for any values of the arity there is a value at some depth
abbrev pub GivesAValue : (ℕ → List Val → Option Val) → ℕ → Type 0
GivesAValue act k = (vs : List Val) → length vs ≡ k → (n : ℕ) × (v : Val) × (act n vs ≡ Some v)

-- the interpretation gives each function variable an entry that has a value everywhere
abbrev pub TotalFor : Functions → Interp → Type 0
TotalFor W I = (x : Name) (k : ℕ) → lookup W.vars x ≡ Some k → GivesAValue (λ n. variable (below n) I x) k

-- under each such interpretation each function has a value everywhere
abbrev pub Total : Functions → Type 0
Total W = (I : Interp) → TotalFor W I → (f : Name) (k : ℕ) → arity W f ≡ Some k → GivesAValue (λ n. apply n W.defs I f) k

-- the term has a value other than NIL
abbrev pub IsTrueAt : Functions → Interp → (Name → Val) → Tm → Type 0
IsTrueAt W I env t = (n : ℕ) × (v : Val) × (eval n W.defs I t (λ x. Some (env x)) ≡ Some v) × (v ≢ nil)

-- Under each total interpretation where the universals are true for all values of their variables: for all values
-- of the variables of the hypotheses and the goal, where the hypotheses are true the goal is.
abbrev pub Holds : Functions → Sequent → Type 0
Holds W s =
    (I : Interp) → TotalFor W I → Each (λ u. (env : Name → Val) → IsTrueAt W I env u) s.universals →
    (env : Name → Val) → Each (IsTrueAt W I env) s.hyps → IsTrueAt W I env s.goal
