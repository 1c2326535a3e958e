-- What a definition owes, under the names of conditions.
use Rattle.std.proofs.Common.{◌≡◌, ℕ, zero, suc, ◌+◌, ◌<◌, List, [], ◌∷◌, length, get_or, drop, ap, sym, arith}
use native.Mathlib.Numerals.{unary_clauses}
use Rattle.terms.specs.declared.sequent.Sequent.{Sequent}
use Rattle.events.specs.Defun.{decrease, decreases}

pub decreases-step : (k : ℕ) (ss : List Sequent) (i : ℕ) (s : Sequent) → i < length ss → s ≡ get_or ss i s → decreases k (drop i ss) ≡ decrease k s ∷ decreases (k + 1) (drop (i + 1) ss)
decreases-step k [] i s h e = absurd (omega arith)
decreases-step k (t ∷ ss) zero s h e = ap (λ u. decrease k u ∷ decreases (k + 1) ss) (sym e)
decreases-step k (t ∷ ss) (suc i) s h e = simp unary_clauses (simp unary_clauses at (decreases-step k ss i s (omega arith) e))

pub ruleset decreasing = (decreases-step)
