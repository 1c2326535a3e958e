-- The run, step by step.
use Rattle.std.proofs.Common.{◌≡◌, ℕ, zero, suc, ◌+◌, ◌-◌, ◌<◌, List, [], ◌∷◌, ◌++◌, reverse, append_assoc, append-nil, Option, Some, None, refl, ap, sym, ◌∙◌, arith}
use Rattle.terms.specs.Worlds.{World}
use Rattle.reduction.specs.declared.kinds.How.{How}
use Rattle.reduction.specs.declared.moves.Subgoal.{Subgoal}
use Rattle.reduction.specs.declared.moves.Move.{Move}
use Rattle.reduction.specs.declared.run.Made.{Made}
use Rattle.reduction.specs.declared.run.Task.{Task}
use Rattle.reduction.specs.declared.run.Outcome.{Outcome}
use Rattle.reduction.specs.declared.run.Outcome.TheVariants.{Closed, Stuck, TooLong}
use Rattle.reduction.specs.Moves.{after}
use Rattle.reduction.specs.Reduction.{step, cases_after, tasks, preceded, made, at_limit, go_on, reduce}
use Rattle.reduction.proofs.Seeking.{reverse-last}

pub preceded-none : (o : Outcome) → preceded [] o ≡ o
preceded-none (Closed ms) = refl
preceded-none (Stuck leaf) = refl
preceded-none TooLong = refl

pub preceded-stuck : (ms : List Made) (leaf : Subgoal) → preceded ms (Stuck leaf) ≡ Stuck leaf
preceded-stuck ms leaf = refl

pub preceded-more : (ms : List Made) (m : Made) (o : Outcome) → preceded (ms ++ m ∷ []) o ≡ preceded ms (preceded (m ∷ []) o)
preceded-more ms m (Closed ns) = ap Closed (append_assoc ms (m ∷ []) ns)
preceded-more ms m (Stuck leaf) = refl
preceded-more ms m TooLong = refl

pub reduce-done : (W : World) (how : How) (n : ℕ) → reduce W how n [] ≡ Closed []
reduce-done W how zero = refl
reduce-done W how (suc n) = refl

pub reduce-stuck : (W : World) (how : How) (n : ℕ) (t : Task) (ts : List Task) → step W how t ≡ None → reduce W how n (t ∷ ts) ≡ Stuck t.subgoal
reduce-stuck W how zero t ts e = ap (at_limit t) e
reduce-stuck W how (suc n) t ts e = ap (go_on how t ts (reduce W how n)) e

pub reduce-long : (W : World) (how : How) (t : Task) (ts : List Task) (m : Move) → step W how t ≡ Some m → reduce W how 0 (t ∷ ts) ≡ TooLong
reduce-long W how t ts m e = ap (at_limit t) e

pub reduce-step : (W : World) (how : How) (n : ℕ) (t : Task) (ts : List Task) (m : Move) → 0 < n → step W how t ≡ Some m →
    reduce W how n (t ∷ ts) ≡ made m t.subgoal (reduce W how (n - 1) (tasks (cases_after how t) (after m t.subgoal) ++ ts))
reduce-step W how zero t ts m h e = absurd (omega arith)
reduce-step W how (suc n) t ts m h e =
    let k : suc n - 1 ≡ n = omega arith in
    ap (go_on how t ts (reduce W how n)) e ∙ ap (λ n. made m t.subgoal (reduce W how n (tasks (cases_after how t) (after m t.subgoal) ++ ts))) (sym k)

pub ruleset runs = (preceded-none, preceded-more, reduce-done, reduce-stuck, reduce-long, reduce-step, reverse-last, append-nil)
