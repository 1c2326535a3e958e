-- When a call may answer a fault.
use Rattle.std.specs.Prelude.{◌≡◌, ℕ, ◌+◌, ◌-◌, ◌^◌, ◌≤◌, min, MatchResult, OnErr, Result}

-- The count rose: it is greater after a call than before, or stands at the greatest u64.
abbrev pub Rose : ℕ → ℕ → Type 0
Rose before after = min (before + 1) (2 ^ 64 - 1) ≤ after

-- The count did not fall, and a fault is answered only where it rose.
pub record HasCause {T E : Type 0} (before after : ℕ) (result : Result T E) : Type 0 where
  pub later : before ≤ after
  pub failed : OnErr result (Rose before after)

-- A fault raises the count by one, up to the greatest u64, and nothing else changes it.
abbrev pub IsCounted : {T E : Type 0} → ℕ → ℕ → Result T E → Type 0
IsCounted before after result =
    MatchResult result (λ _. after ≡ before) (λ _. after ≡ min (before + 1) (2 ^ 64 - 1))

-- A real source or sink, which tells nothing but how many faults there were.
pub record FaultCount : Type 0 where
  pub faults : ℕ
