-- The laws of restrictions.
use Rattle.std.specs.Prelude.{◌≡◌, true, false, ℕ, List, [], ◌∷◌, ◌++◌, slice_get, bytes_eq, Some, None, Ok}
use Rattle.lisp_data.specs.Values.{Name, Val}
use Rattle.terms.specs.Definitions.{find}
use Rattle.terms.specs.Formed.{FitsOver}
use Rattle.terms.specs.Measures.{RecursiveCall, recursive_calls, is_nested, obligations}
use Rattle.terms.specs.Sound.{Sound}
use Rattle.terms.specs.Terms.{Tm}
use Rattle.terms.specs.Worlds.{World, Each, FitsSequent, arity}
use Rattle.terms.specs.declared.definition.Definition.{Definition}
use Rattle.terms.specs.declared.sequent.Sequent.{Sequent}
use Rattle.kernel.specs.Conclusion.{Conclusion}
use Rattle.plans.specs.declared.plan.Plan.{Plan}
use Rattle.plans.specs.Plans.{IsLawfulPlan}
use Rattle.plans.specs.Proving.{ProvesAll}
use Rattle.proof_builders.specs.Congruence.{Alike, differences, is_proved_among}
use Rattle.proof_builders.specs.Schemes.{scheme}
use Rattle.reduction_proofs.specs.Proving.{Proves, ProvesCondition}
use Rattle.reduction_proofs.specs.Trees.{Proof, Owed}
use Rattle.restrict_tool.specs.Restrictions.{Request, AreNew, new_body, restricted, same_where, stays_restricted, plan_of}
use Rattle.restrict_tool.specs.Proofs.{hypotheses, agreement, agreements, by_hypothesis, same_bodies, unfolded}

-- a world with the old function, and the new one under another name
pub record HasBoth (W : World) (d : Definition) (g : Name) (r : Tm) (u : Val) : Type 0 where
  pub old : find W.functions.defs d.name ≡ Some d
  pub new : find W.functions.defs g ≡ Some (restricted d g r u)
  pub two : bytes_eq d.name g ≡ false
  pub restriction : FitsOver W.functions d.formals r

-- at each recursive call the functions agree, where a proof says that its arguments meet the restriction
abbrev pub CallsAgree : Type 0
CallsAgree =
    (W : World) → Sound W → (d : Definition) (g : Name) (r : Tm) (u : Val) → HasBoth W d g r u →
    (k : ℕ) (c : RecursiveCall) → slice_get (recursive_calls d.name [] d.body) k ≡ Some c →
    (P : Proof) → ProvesCondition W (stays_restricted d r c) P → ProvesCondition W (agreement d g r c) (by_hypothesis d g r c P)

-- The bodies are alike but for the recursive calls, and proofs of the agreements are proofs of all differences.
abbrev pub BodiesAreAlike : Type 0
BodiesAreAlike =
    (W : World) (d : Definition) (g : Name) (r : Tm) → bytes_eq d.name g ≡ false → is_nested d.name d.body ≡ false →
    Alike d.name d.body (new_body d g)
    × ((cs : List Conclusion) → ProvesAll W (agreements d g r) cs → Each (λ e. is_proved_among cs [] (hypotheses d g r) e ≡ true) (differences d.name [] d.body (new_body d g)))

-- where the bodies are the same the functions are, under the theorem at the recursive calls
abbrev pub UnfoldingProves : Type 0
UnfoldingProves =
    (W : World) → Sound W → (d : Definition) (g : Name) (r : Tm) (u : Val) → HasBoth W d g r u → (C : Proof) →
    ProvesCondition W (same_bodies d g r) C → Proves W [] (scheme d (same_where d g r)) (same_where d g r) (unfolded d g r u C)

-- what the new function owes is proved by what the old one does, each by the same of it
abbrev pub RestrictionOwes : Type 0
RestrictionOwes =
    (W : World) → Sound W → (d : Definition) → find W.functions.defs d.name ≡ Some d → (g : Name) → arity W.functions g ≡ None →
    (r : Tm) → FitsOver W.functions d.formals r → (u : Val) →
    (k : ℕ) (s : Sequent) → slice_get (obligations (restricted d g r u)) k ≡ Some s → ProvesCondition W s (Owed d.name k)

-- what is planned is lawful, and its conditions are well formed
pub record IsRestriction (W : World) (p : Plan) : Type 0 where
  pub lawful : IsLawfulPlan W p
  pub fits : Each (λ c. FitsSequent W.functions c.sequent) p.conditions

abbrev pub RestrictionsAreLawful : Type 0
RestrictionsAreLawful = (W : World) → Sound W → (q : Request) → AreNew W q → (p : Plan) → plan_of W q ≡ Ok p → IsRestriction W p
