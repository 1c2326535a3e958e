-- Conditions that are proved one after the other.
use Rattle.std.proofs.Common.{◌≡◌, ◌≤◌, ◌-◌, ℕ, List, [], ◌∷◌, ◌++◌, length, get_or, take, drop, Ok, Err, refl, subst, arith, ap, sym, ◌∙◌, append_assoc}
use Rattle.std.proofs.lemmas.List.{append-nil}
use Rattle.std.proofs.Math.Seq.{take-length}
use Rattle.lisp_data.specs.declared.code.Code.TheVariants as code
use Rattle.lisp_data.specs.declared.detail.Detail.TheVariants as detail
use Rattle.terms.specs.Worlds.{World, Each, FitsSequent}
use Rattle.terms.specs.declared.sequent.Sequent.{Sequent}
use Rattle.reduction.specs.declared.run.Outcome.{Outcome}
use Rattle.reduction.specs.declared.run.Outcome.TheVariants.{Closed, Stuck, TooLong}
use Rattle.hint_prover.specs.Answers.{Answers}
use Rattle.hint_prover.specs.declared.errors.ProveError.TheVariants as prove
use Rattle.kernel.specs.Conclusion.{Conclusion}
use Rattle.plans.specs.declared.plan.Condition.{Condition}
use Rattle.events.specs.declared.clauses.Way.{Way}
use Rattle.events.specs.declared.refusal.Refusal.TheVariants.{Coded, NotProved}
use Rattle.events.specs.Frames.{goes_on}
use Rattle.events.specs.Laws.{ConditionsFit}
use Rattle.events.specs.view.Halts.{FitsWay, FitWays, IsProvedOne, AreProvedAfter}
use Rattle.events.specs.Verdicts.{by_reduction, all_proved}

-- none is left
pub proved-none : (W : World) (ws : List Way) (old : List Conclusion) → AreProvedAfter W [] ws old old
proved-none W ws old = record { further = []; joined = sym (append-nil old); accepted = refl; proofs = tt }

-- a further one
pub proved-one : (W : World) (c : Condition) (w : Way) (it : Conclusion) → IsProvedOne W c w it → (cs : List Condition) (ws : List Way) (old new : List Conclusion) → AreProvedAfter W cs ws (old ++ it ∷ []) new → AreProvedAfter W (c ∷ cs) (w ∷ ws) old new
proved-one W c w it p cs ws old new a = record {
  further = it ∷ a.further;
  joined = a.joined ∙ append_assoc old (it ∷ []) a.further;
  accepted = ap (λ o. goes_on o (λ _. all_proved W cs ws)) p.accepted ∙ a.accepted;
  proofs = ((p.world, p.proves), a.proofs);
}

-- the first of some conditions and its way, and the others, as slices read them
first : {A : Type 0} (P : A → Type 0) (xs : List A) (x : A) → 1 ≤ length xs → x ≡ get_or xs 0 x → Each P xs → P x
first P [] x h e p = absurd (omega arith)
first P (y ∷ xs) x h e p = subst P (sym e) p.0

pub fit-first : (W : World) (cs : List Condition) (c : Condition) → 1 ≤ length cs → c ≡ get_or cs 0 c → ConditionsFit W cs → FitsSequent W.functions c.sequent
fit-first W cs c h e f = first (λ c. FitsSequent W.functions c.sequent) cs c h e f

others : {A : Type 0} (x : A) (xs : List A) → take (length (x ∷ xs) - 1) xs ≡ xs
others x xs = let k : length (x ∷ xs) - 1 ≡ length xs = omega arith in ap (λ n. take n xs) k ∙ take-length xs

pub fit-others : (W : World) (cs : List Condition) → 1 ≤ length cs → ConditionsFit W cs → ConditionsFit W (take (length cs - 1) (drop 1 cs))
fit-others W [] h f = absurd (omega arith)
fit-others W (c ∷ cs) h f = subst (ConditionsFit W) (sym (others c cs)) f.1

pub way-first : (W : World) (cs : List Condition) (ws : List Way) (c : Condition) (w : Way) → 1 ≤ length cs → 1 ≤ length ws → c ≡ get_or cs 0 c → w ≡ get_or ws 0 w → FitWays W cs ws → FitsWay W c.sequent.universals w
way-first W [] ws c w h k e d f = absurd (omega arith)
way-first W (x ∷ cs) [] c w h k e d f = absurd (omega arith)
way-first W (x ∷ cs) (y ∷ ws) c w h k e d f =
    subst (λ (x : Condition). FitsWay W x.sequent.universals w) (sym e) (subst (FitsWay W x.sequent.universals) (sym d) f.0)

pub way-others : (W : World) (cs : List Condition) (ws : List Way) → 1 ≤ length cs → 1 ≤ length ws → FitWays W cs ws → FitWays W (take (length cs - 1) (drop 1 cs)) (take (length ws - 1) (drop 1 ws))
way-others W [] ws h k f = absurd (omega arith)
way-others W (c ∷ cs) [] h k f = absurd (omega arith)
way-others W (c ∷ cs) (w ∷ ws) h k f =
    subst (λ ks. FitWays W ks (take (length (w ∷ ws) - 1) ws)) (sym (others c cs)) (subst (FitWays W cs) (sym (others w ws)) f.1)

-- how the reduction of a condition ends, by the answer of the proof search
pub by-closed : (c : Condition) (o : Outcome) (it : Conclusion) → Answers c.sequent o (Ok it) → by_reduction c o ≡ Ok (tt {0})
by-closed c (Closed made) it h = refl
by-closed c (Stuck leaf) it h = absurd h
by-closed c TooLong it h = absurd h

pub by-stuck : (c : Condition) (o : Outcome) (leaf : Sequent) → Answers c.sequent o (Err (prove.NotProved leaf)) → by_reduction c o ≡ Err (NotProved c.name leaf)
by-stuck c (Closed made) leaf h = absurd h
by-stuck c (Stuck s) leaf h = ap (λ l. Err (NotProved c.name l)) (sym h)
by-stuck c TooLong leaf h = absurd h

pub by-limit : (c : Condition) (o : Outcome) → Answers c.sequent o (Err prove.StepLimit) → by_reduction c o ≡ Err (Coded code.StepLimit (detail.Name c.name))
by-limit c (Closed made) h = absurd h
by-limit c (Stuck leaf) h = absurd h
by-limit c TooLong h = refl

pub ruleset reductions = (by-closed, by-stuck, by-limit)

pub ruleset proving = (proved-none, proved-one, fit-first, fit-others, way-first, way-others)
