-- What a world's links say: the theorem of each lets a call of one function become a call of another.
use Rattle.std.specs.Prelude.{◌≡◌, ℕ, zero, suc, nat_eq, cond, List, [], ◌∷◌, map, codes, Option, Some, None, IfSome}
use Rattle.lisp_data.specs.Values.{Name}
use Rattle.terms.specs.Primitives.{lookup}
use Rattle.terms.specs.Terms.{Tm, Var, Call, tms, Over}
use Rattle.terms.specs.Definitions.{find}
use Rattle.terms.specs.Dependence.{function_dependence}
use Rattle.terms.specs.Measures.{call1, call2}
use Rattle.terms.specs.BuiltIn.{yes, no, if_else}
use Rattle.terms.specs.Worlds.{World, Each, IsIn, Distinct, arity}
use Rattle.terms.specs.declared.definition.Definition.{Definition}
use Rattle.terms.specs.declared.sequent.Sequent.{Sequent}
use Rattle.terms.specs.declared.entries.Iso.{Iso}
use Rattle.terms.specs.declared.entries.IsoUse.{IsoUse}
use Rattle.terms.specs.declared.entries.Link.{Link}
use Rattle.terms.specs.declared.entries.Link.TheVariants.{Schema, Solution, Restriction, Isomorphism, TailRecursion}

-- the last term, where each of those before it is true: (if t .. 'nil)
abbrev pub conjunction_from : Tm → List Tm → Tm
conjunction_from t [] = t
conjunction_from t (u ∷ us) = if_else t (conjunction_from u us) no

abbrev pub conjunction : List Tm → Tm
conjunction [] = yes
conjunction (t ∷ ts) = conjunction_from t ts

-- the function at the variables
abbrev pub at_variables : Name → List Name → Tm
at_variables f xs = Call f (tms (map Var xs))

-- the formal at a position; where there is none a name without letters stands for it
abbrev pub formal_at : List Name → ℕ → Name
formal_at [] k = []
formal_at (x ∷ xs) zero = x
formal_at (x ∷ xs) (suc k) = formal_at xs k

-- (oldp x) for the formal x of each isomorphism, in the order of the isomorphisms
abbrev pub all_in_old : List IsoUse → List Name → List Tm
all_in_old us xs = map (λ u. call1 u.oldp (Var (formal_at xs u.position))) us

-- the first isomorphism for the position
abbrev pub iso_at : List IsoUse → ℕ → Option IsoUse
iso_at [] k = None
iso_at (u ∷ us) k = cond (nat_eq u.position k) (Some u) (iso_at us k)

abbrev pub mapped : Option IsoUse → Tm → Tm
mapped None t = t
mapped (Some u) t = call1 u.forth t

-- the terms, of which the first stands at position k, with (forth t) for t where the position has an isomorphism
abbrev pub all_mapped : List IsoUse → ℕ → List Tm → List Tm
all_mapped us k [] = []
all_mapped us k (t ∷ ts) = mapped (iso_at us k) t ∷ all_mapped us (suc k) ts

-- the conclusion, where the condition is true if there is one
abbrev pub under : Option Tm → Tm → Tm
under None e = e
under (Some c) e = call2 (codes "IMPLIES") c e

-- the goal, without universals and hypotheses
abbrev pub alone : Tm → Sequent
alone goal = record { universals = []; hyps = []; goal = goal }

-- a function of so many arguments, that depends on no function variable
abbrev pub IsIndependent : World → Name → ℕ → Type 0
IsIndependent W f k = (arity W.functions f ≡ Some k) × (function_dependence W f ≡ [])

-- the functions of an isomorphism take one argument, and depend on no function variable
abbrev pub IsFirstOrder : World → Iso → Type 0
IsFirstOrder W i = Each (λ f. IsIndependent W f 1) (i.oldp ∷ i.newp ∷ i.forth ∷ i.back ∷ [])

-- the term has no variables but these, and its calls are of such functions
abbrev pub IndependentOver : World → List Name → Tm → Type 0
IndependentOver W xs = Over (IsIn xs) (IsIndependent W)

-- Where the condition is true the old function at its formals is the new term: so the theorem says. No function
-- of it depends on a function variable.
pub record IsRewriting (W : World) (theorem old : Name) (formals : List Name) (condition : Option Tm) (new : Tm) : Type 0 where
  pub stated : lookup W.theorems theorem ≡ Some (alone (under condition (call2 (codes "EQUAL") (at_variables old formals) new)))
  pub distinct : Distinct formals
  pub old_term : IndependentOver W formals (at_variables old formals)
  pub condition_term : IfSome condition (IndependentOver W formals)
  pub new_term : IndependentOver W formals new

-- the same, over the formals of the old function's definition
abbrev pub RewritesDefined : World → Name → Name → (List Name → Option Tm) → (List Name → Tm) → Type 0
RewritesDefined W theorem old condition new =
    (d : Definition) × (find W.functions.defs old ≡ Some d) × IsRewriting W theorem old d.formals (condition d.formals) (new d.formals)

-- What the theorem of each kind of link says. Of a schema's and a solution's nothing is asked yet.
abbrev pub IsLinked : World → Name → Link → Type 0
IsLinked W n (Schema _ _ _ _ _) = Unit {0}
IsLinked W n (Solution _ _ _) = Unit {0}
IsLinked W n (Restriction old new formals condition) =
    IsRewriting W n old formals (Some condition) (at_variables new formals)
IsLinked W n (Isomorphism old new maps) =
    RewritesDefined W n old (λ xs. Some (conjunction (all_in_old maps xs))) (λ xs. Call new (tms (all_mapped maps 0 (map Var xs))))
IsLinked W n (TailRecursion old wrapper) =
    RewritesDefined W n old (λ xs. None) (at_variables wrapper)
