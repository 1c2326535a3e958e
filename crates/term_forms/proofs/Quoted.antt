-- Quoted values within their limits.
use Rattle.std.proofs.Common.{◌≡◌, ℕ, ◌≤◌, true, false, ◌&&◌, nat_le, arith}
use Rattle.std.proofs.lemmas.Bool.Decides.{nat_tests}
use Rattle.lisp_data.specs.Values.{Val, path, pairs, IsSmall}
use Rattle.term_forms.specs.Translation.{is_small}
use Rattle.lisp_data.specs.declared.limits.TheConstants.{MAX_PAIRS, MAX_PATH}

tests-hold : (a b : ℕ) → a ≤ MAX_PATH → b ≤ MAX_PAIRS → (nat_le a MAX_PATH && nat_le b MAX_PAIRS) ≡ true
tests-hold a b p q = grind (arith, nat_tests)

pub small-passes : (v : Val) → IsSmall v → is_small v ≡ true
small-passes v s = tests-hold (path v) (pairs v) s.path_fits s.pairs_fit

tests-fail : (a b : ℕ) → ((a ≤ MAX_PATH) × (b ≤ MAX_PAIRS) → ⊥) → (nat_le a MAX_PATH && nat_le b MAX_PAIRS) ≡ false
tests-fail a b h = grind (arith, nat_tests)

pub large-fails : (v : Val) → (IsSmall v → ⊥) → is_small v ≡ false
large-fails v h = tests-fail (path v) (pairs v) (λ p. h (record { path_fits = p.0; pairs_fit = p.1 }))

pub ruleset quoted = (small-passes, large-fails)
