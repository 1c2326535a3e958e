-- The laws of functions on another representation.
use Rattle.std.specs.Prelude.{◌≡◌, true, ℕ, zero, suc, List, [], slice_get, Some, None, Ok}
use Rattle.lisp_data.specs.Values.{Name}
use Rattle.terms.specs.Definitions.{find}
use Rattle.terms.specs.Links.{alone}
use Rattle.terms.specs.Measures.{RecursiveCall, recursive_calls, obligations}
use Rattle.terms.specs.Sound.{Sound}
use Rattle.terms.specs.Terms.{Tm}
use Rattle.terms.specs.Worlds.{World, Each, FitsSequent, arity}
use Rattle.terms.specs.declared.definition.Definition.{Definition}
use Rattle.terms.specs.declared.sequent.Sequent.{Sequent}
use Rattle.kernel.specs.Conclusion.{Conclusion}
use Rattle.plans.specs.declared.plan.Plan.{Plan}
use Rattle.plans.specs.Plans.{IsLawfulPlan}
use Rattle.plans.specs.Proving.{ProvesAll}
use Rattle.proof_builders.specs.Congruence.{Alike, differences, is_proved_among}
use Rattle.proof_builders.specs.Schemes.{scheme}
use Rattle.reduction_proofs.specs.Proving.{Proves, ProvesCondition}
use Rattle.reduction_proofs.specs.Trees.{Proof}
use Rattle.isodata_tool.specs.Carried.{Mapped, AreMapped, called_body, carried_over, new_to_old, old_to_new, stays_old}
use Rattle.isodata_tool.specs.Isomorphic.{Request, AreNew, plan_of}
use Rattle.isodata_tool.specs.Proofs.{hypotheses, agreement, agreements, by_hypothesis, same_bodies, unfolded, turned_round, natural_there, falls_there}

-- a world with the old function, and the new one under another name
pub record HasBoth (W : World) (d : Definition) (g : Name) (ms : List Mapped) : Type 0 where
  pub old : find W.functions.defs d.name ≡ Some d
  pub new : find W.functions.defs g ≡ Some (carried_over d g ms)
  pub mapped : AreMapped W d.formals ms

-- at the call the functions agree, where a proof says that its arguments are in the old representation
abbrev pub Agrees : World → Definition → Name → List Mapped → RecursiveCall → Type 0
Agrees W d g ms c =
    (P : Proof) → ProvesCondition W (stays_old d ms c) P → ProvesCondition W (agreement d g ms c) (by_hypothesis d g ms c P)

-- at each recursive call they do
abbrev pub CallsAgree : Type 0
CallsAgree =
    (W : World) → Sound W → (d : Definition) (g : Name) (ms : List Mapped) → HasBoth W d g ms →
    (k : ℕ) (c : RecursiveCall) → slice_get (recursive_calls d.name [] d.body) k ≡ Some c → Agrees W d g ms c

-- The bodies are alike but for the recursive calls, and proofs of the agreements are proofs of all differences.
abbrev pub BodiesAreAlike : Type 0
BodiesAreAlike =
    (W : World) (d : Definition) (g : Name) (ms : List Mapped) →
    Alike d.name d.body (called_body d g ms)
    × ((cs : List Conclusion) → ProvesAll W (agreements d g ms) cs → Each (λ e. is_proved_among cs [] (hypotheses d g ms) e ≡ true) (differences d.name [] d.body (called_body d g ms)))

-- where the bodies are the same the functions are, under the theorem at the recursive calls
abbrev pub UnfoldingProves : Type 0
UnfoldingProves =
    (W : World) → Sound W → (d : Definition) (g : Name) (ms : List Mapped) → HasBoth W d g ms → (C : Proof) →
    ProvesCondition W (same_bodies d g ms) C → Proves W [] (scheme d (old_to_new d g ms)) (old_to_new d g ms) (unfolded d g ms C)

-- the second theorem proves the first
abbrev pub TurningProves : Type 0
TurningProves =
    (W : World) → Sound W → (d : Definition) (g : Name) (ms : List Mapped) → HasBoth W d g ms → (N : Proof) →
    ProvesCondition W (alone (old_to_new d g ms)) N → ProvesCondition W (alone (new_to_old d g ms)) (turned_round d g ms N)

-- A recursive call, at which the sequent is proved where a proof says that the call's arguments are in the old representation.
pub record FallsAt (W : World) (d : Definition) (ms : List Mapped) (k : ℕ) (s : Sequent) : Type 0 where
  pub measure : Tm
  pub measured : d.measure ≡ Some measure
  pub call : RecursiveCall
  pub called : slice_get (recursive_calls d.name [] d.body) k ≡ Some call
  pub falls : (P : Proof) → ProvesCondition W (stays_old d ms call) P → ProvesCondition W s (falls_there d measure ms (suc k) call P)

-- what the new function owes first is that its measure is natural, and then that it falls at each recursive call
abbrev pub IsOwed : World → Definition → List Mapped → ℕ → Sequent → Type 0
IsOwed W d ms zero s = ProvesCondition W s (natural_there d ms)
IsOwed W d ms (suc k) s = FallsAt W d ms k s

abbrev pub IsomorphicOwes : Type 0
IsomorphicOwes =
    (W : World) → Sound W → (d : Definition) → find W.functions.defs d.name ≡ Some d → (g : Name) → arity W.functions g ≡ None →
    (ms : List Mapped) → AreMapped W d.formals ms →
    (k : ℕ) (s : Sequent) → slice_get (obligations (carried_over d g ms)) k ≡ Some s → IsOwed W d ms k s

-- what is planned is lawful, and its conditions are well formed
pub record IsTransfer (W : World) (p : Plan) : Type 0 where
  pub lawful : IsLawfulPlan W p
  pub fits : Each (λ c. FitsSequent W.functions c.sequent) p.conditions

abbrev pub TransfersAreLawful : Type 0
TransfersAreLawful = (W : World) → Sound W → (q : Request) → AreNew W q → (p : Plan) → plan_of W q ≡ Ok p → IsTransfer W p
