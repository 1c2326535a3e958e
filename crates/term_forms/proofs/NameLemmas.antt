-- The last byte of a name.
use Rattle.std.proofs.Common.{◌≡◌, ℕ, suc, ◌-◌, ◌<◌, nat_eq, List, [], ◌∷◌, length, get_or, refl, arith, ◌∙◌}
use Rattle.term_forms.specs.Names.{ends_with}

pub ends_with-last : (b : ℕ) (s : List ℕ) (d : ℕ) → 0 < length s → ends_with b s ≡ nat_eq b (get_or s (length s - 1) d)
ends_with-last b [] d h = absurd (omega arith)
ends_with-last b (c ∷ []) d h = refl
ends_with-last b (c ∷ e ∷ s) d h =
    let k : length (c ∷ e ∷ s) - 1 ≡ suc (length (e ∷ s) - 1) = omega arith in
    ends_with-last b (e ∷ s) d (omega arith) ∙ rw k refl

pub ruleset last_byte = (ends_with-last)
