-- The parts of steps, taken from the end.
use Rattle.std.proofs.Common.{◌≡◌, ℕ, ◌+◌, ◌<◌, ◌≤◌, List, [], ◌∷◌, ◌++◌, length, Option, Some, None, refl, ap, sym, ◌∙◌, arith}
use Rattle.std.specs.Option.{option_to_list}
use Rattle.proof_texts.specs.StepParts.{only, only_two}

module _ {A : Type 0} where
  pub only-nothing : (xs ys : List A) (o : Option A) → xs ≡ ys ++ option_to_list o → o ≡ None → length xs ≡ 0 → only xs ≡ None
  only-nothing [] ys o e n h = refl
  only-nothing (x ∷ xs) ys o e n h = absurd (omega (arith, h))

pub ruleset parts = (only-nothing)
