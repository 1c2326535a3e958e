-- What calls do to the bytes that a source has left and to those that a sink holds, where these are told.
use Rattle.std.specs.Prelude.{◌≡◌, ℕ, ◌≤◌, List, [], ◌++◌, length, take, ⊤, Option, Some, None, Result, MatchResult}
use Rattle.std.specs.Io.KnownBytes.{Consumes, Keeps, IsAtEnd}

-- Ok(n) takes the next n bytes, none only where none is left. A fault takes nothing.
abbrev pub Pulls : {E : Type 0} → Option (List ℕ) → Option (List ℕ) → Result ℕ E → List ℕ → Type 0
Pulls before after result buf =
    MatchResult result (λ n. Consumes before after (take n buf) × (n ≡ 0 → IsAtEnd before)) (λ _. Keeps before after)

-- What is told after was told before, and grew by these bytes.
abbrev pub Grows : Option (List ℕ) → Option (List ℕ) → List ℕ → Type 0
Grows before None bytes = ⊤
Grows None (Some held) bytes = ⊥
Grows (Some old) (Some held) bytes = held ≡ old ++ bytes

-- Ok(n) appends the first n bytes of the piece. A fault appends nothing.
abbrev pub Puts : {E : Type 0} → Option (List ℕ) → Option (List ℕ) → Result ℕ E → List ℕ → Type 0
Puts before after result piece =
    MatchResult result (λ n. Grows before after (take n piece)) (λ _. Grows before after [])

-- What is told after was told before, and grew by a prefix of these bytes.
abbrev pub GrowsByFront : Option (List ℕ) → Option (List ℕ) → List ℕ → Type 0
GrowsByFront before after bytes = (n : ℕ) × (n ≤ length bytes) × Grows before after (take n bytes)
