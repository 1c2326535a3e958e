-- Lists of terms, one place after the other.
use Rattle.std.proofs.Common.{◌≡◌, ℕ, zero, suc, ◌+◌, ◌<◌, List, [], ◌∷◌, length, get_or, drop, refl, arith}
use native.Mathlib.Numerals.{unary_clauses}
use Rattle.std.proofs.lemmas.List.{drop_all}
use Rattle.terms.specs.Terms.{Tm}

-- the list from the place i on: the item there, and the rest
pub drop-item : (ts : List Tm) (i : ℕ) (d : Tm) → i < length ts → drop i ts ≡ get_or ts i d ∷ drop (i + 1) ts
drop-item [] i d h = absurd (omega arith)
drop-item (t ∷ ts) zero d h = refl
drop-item (t ∷ ts) (suc i) d h = simp unary_clauses (simp unary_clauses at (drop-item ts i d (omega arith)))

pub ruleset lists = (drop-item, drop_all)
