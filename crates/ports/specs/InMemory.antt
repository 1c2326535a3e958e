-- Sources and sinks in memory.
use Rattle.std.specs.Prelude.{ℕ, ◌+◌, ◌-◌, ◌^◌, nat_le, if◌then◌else◌, List, ◌++◌, length, Option, Some, None}
use Rattle.ports.specs.Calls.{NumberedCalls}

-- No bound on what one call moves: the greatest usize, which no slice is longer than.
abbrev pub unbounded : ℕ
unbounded = 2 ^ 64 - 1

-- A source that never fails: the bytes that are left, and how many one call gives at most.
pub record BytesLeft : Type 0 where
  pub left : List ℕ
  pub most : ℕ

-- A source with numbered calls: the same, and the calls.
pub record NumberedSource : Type 0 where
  pub left : List ℕ
  pub most : ℕ
  pub calls : NumberedCalls

-- A sink that never fails: how many bytes it has room for, and all that was put, while it fits.
pub record BytesHeld : Type 0 where
  pub room : ℕ
  pub held : Option (List ℕ)

-- A sink with numbered calls: the same, how many bytes one call takes at most, and the calls.
pub record NumberedSink : Type 0 where
  pub room : ℕ
  pub held : Option (List ℕ)
  pub most : ℕ
  pub calls : NumberedCalls

-- What a sink with this room holds after one piece more: None from the first that does not fit on.
abbrev pub held_after : ℕ → Option (List ℕ) → List ℕ → Option (List ℕ)
held_after room None piece = None
held_after room (Some held) piece =
    if nat_le (length held + length piece) room then Some (held ++ piece) else None
