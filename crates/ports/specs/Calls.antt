-- Calls that are numbered from 1, of which the listed ones fail.
use Rattle.std.specs.Prelude.{ℕ, zero, suc, ◌+◌, ◌-◌, ◌^◌, Bool, ◌&&◌, nat_eq, nat_lt, if◌then◌else◌, min, List}
use Rattle.std.specs.List.{list_any}

-- The numbers of the calls that fail, and how many calls were made.
pub record NumberedCalls : Type 0 where
  pub failing : List ℕ
  pub made : ℕ

-- No call was made.
abbrev pub uncalled : List ℕ → NumberedCalls
uncalled failing = record { failing = failing; made = 0 }

-- The call of this number fails: it is listed, and no greater than the greatest u64.
abbrev pub fails : List ℕ → ℕ → Bool
fails failing number = nat_lt number (2 ^ 64) && list_any (λ listed. nat_eq listed number) failing

-- The next call fails.
abbrev pub next_fails : NumberedCalls → Bool
next_fails calls = fails calls.failing (calls.made + 1)

-- How many of the first calls fail.
unfoldable pub failing_among : List ℕ → ℕ → ℕ
failing_among failing zero = 0
failing_among failing (suc made) = failing_among failing made + (if fails failing (suc made) then 1 else 0)

-- How many of the calls made failed.
abbrev pub failures : NumberedCalls → ℕ
failures calls = failing_among calls.failing calls.made

-- How many calls were made after one more. The count stops at the greatest u64.
abbrev pub made_after : ℕ → ℕ
made_after made = min (made + 1) (2 ^ 64 - 1)

-- One call more was made.
abbrev pub after_call : NumberedCalls → NumberedCalls
after_call calls = record { failing = calls.failing; made = made_after calls.made }
