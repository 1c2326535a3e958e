-- Lists of premises, by how many there are.
use Rattle.std.proofs.Common.{◌≡◌, ◌≢◌, ◌≤◌, List, [], ◌∷◌, length, get_or, drop, Option, None, refl, arith}
use Rattle.kernel.specs.Conclude.{from_two}
use Rattle.kernel.specs.Conclusion.{Conclusion, sequents_of}
use Rattle.terms.specs.declared.sequent.Sequent.{Sequent}

-- a rule on two premises concludes nothing from more
pub two_of-more : (k : Sequent → Sequent → Option Sequent) (p q : Sequent) (cs : List Conclusion) → length cs ≢ 0 → from_two k (p ∷ q ∷ sequents_of cs) ≡ None
two_of-more k p q [] h = absurd (h refl)
two_of-more k p q (c ∷ cs) h = refl

-- the first two premises, and the rest
pub first_two : (cs : List Conclusion) (d : Conclusion) → 2 ≤ length cs → sequents_of cs ≡ (get_or cs 0 d).sequent ∷ (get_or cs 1 d).sequent ∷ sequents_of (drop 2 cs)
first_two [] d h = absurd (omega arith)
first_two (x ∷ []) d h = absurd (omega arith)
first_two (x ∷ y ∷ cs) d h = refl

pub ruleset arms = (two_of-more, first_two)
