-- Conditions that are counted.
use Rattle.std.proofs.Common.{◌≡◌, ℕ, zero, suc, ◌+◌, ◌<◌, List, [], ◌∷◌, length, get_or, drop, ap, sym, arith}
use native.Mathlib.Numerals.{unary_clauses}
use Rattle.terms.specs.declared.sequent.Sequent.{Sequent}
use Rattle.plan_checks.specs.Numbered.{condition, numbered_from}

pub numbered-step : (word : List ℕ) (k : ℕ) (ss : List Sequent) (i : ℕ) (s : Sequent) → i < length ss → s ≡ get_or ss i s → numbered_from word k (drop i ss) ≡ condition word k s ∷ numbered_from word (k + 1) (drop (i + 1) ss)
numbered-step word k [] i s h e = absurd (omega arith)
numbered-step word k (t ∷ ss) zero s h e = ap (λ u. condition word k u ∷ numbered_from word (k + 1) ss) (sym e)
numbered-step word k (t ∷ ss) (suc i) s h e = simp unary_clauses (simp unary_clauses at (numbered-step word k ss i s (omega arith) e))

pub ruleset numbered_lists = (numbered-step)
