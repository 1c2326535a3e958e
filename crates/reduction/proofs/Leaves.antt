-- A leaf that is answered is stuck.
use Rattle.std.proofs.Common.{◌≡◌, zero, suc, List, [], ◌∷◌, ◌++◌, Option, Some, None, refl, subst}
use Rattle.terms.specs.Terms.{Tm}
use Rattle.reduction.specs.declared.moves.Subgoal.{Subgoal}
use Rattle.reduction.specs.declared.moves.Move.{Move}
use Rattle.reduction.specs.declared.run.Made.{Made}
use Rattle.reduction.specs.declared.run.Task.{Task}
use Rattle.reduction.specs.declared.run.Outcome.{Outcome}
use Rattle.reduction.specs.declared.run.Outcome.TheVariants.{Closed, Stuck, TooLong}
use Rattle.reduction.specs.Moves.{after}
use Rattle.reduction.specs.Reduction.{next, pick, step, cases_after, tasks, preceded, at_limit, go_on, reduce}
use Rattle.reduction.specs.Laws.{LeavesStuck}

stuck_after : (m : Made) (o : Outcome) (leaf : Subgoal) → preceded (m ∷ []) o ≡ Stuck leaf → o ≡ Stuck leaf
stuck_after m (Closed ms) leaf e = absurd (cc)
stuck_after m (Stuck l) leaf e = e
stuck_after m TooLong leaf e = e

pick_none : (o : Option Tm) (m : Option Move) → pick o m ≡ None → m ≡ None
pick_none None m e = e
pick_none (Some c) m e = absurd (cc)

claim_is : {a b : Subgoal} → Stuck a ≡ Stuck b → a ≡ b
claim_is e = cc

pub leaves_stuck : LeavesStuck
leaves_stuck W how zero [] leaf e = absurd (cc)
leaves_stuck W how zero (t ∷ ts) leaf e = at_last (step W how t) refl e
  where
    at_last : (o : Option Move) → step W how t ≡ o → at_limit t o ≡ Stuck leaf → next W how leaf ≡ None
    at_last None q e = subst (λ (c : Subgoal). next W how c ≡ None) (claim_is e) (pick_none _ _ q)
    at_last (Some m) q e = absurd (cc)
leaves_stuck W how (suc n) [] leaf e = absurd (cc)
leaves_stuck W how (suc n) (t ∷ ts) leaf e = at_step (step W how t) refl e (λ us f. leaves_stuck W how n us leaf f)
  where
    at_step : (o : Option Move) → step W how t ≡ o → go_on how t ts (reduce W how n) o ≡ Stuck leaf →
        ((us : List Task) → reduce W how n us ≡ Stuck leaf → next W how leaf ≡ None) → next W how leaf ≡ None
    at_step None q e ih = subst (λ (c : Subgoal). next W how c ≡ None) (claim_is e) (pick_none _ _ q)
    at_step (Some m) q e ih = ih (tasks (cases_after how t) (after m t.subgoal) ++ ts) (stuck_after _ _ leaf e)
