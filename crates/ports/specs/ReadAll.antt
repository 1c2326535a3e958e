-- What reading all bytes answers.
use Rattle.std.specs.Prelude.{◌≡◌, ℕ, ◌<◌, ◌≤◌, List, [], length, take, Option, Some, Result, Ok, Err, IfSome, ⊤}
use Rattle.ports.specs.declared.source.ReadAllError.{ReadAllError}
use Rattle.ports.specs.declared.source.ReadAllError.TheVariants.{ReadFault, TooLong, Memory}

-- All that was left was read, no more than the limit, and nothing is left.
pub record IsWhole (before after : Option (List ℕ)) (limit : ℕ) (all : List ℕ) : Type 0 where
  pub within : length all ≤ limit
  pub all_left : IfSome before (λ bytes. all ≡ bytes)
  pub none_left : IfSome before (λ bytes. after ≡ Some [])

-- More than the limit was left, and these are its first bytes, as many as the limit.
pub record IsCut (before : Option (List ℕ)) (limit : ℕ) (front : List ℕ) : Type 0 where
  pub full : length front ≡ limit
  pub more : IfSome before (λ bytes. limit < length bytes)
  pub first : IfSome before (λ bytes. front ≡ take limit bytes)

-- A fact of the bytes that TooLong carries.
abbrev pub IfTooLong : {T : Type 0} → Result T ReadAllError → (List ℕ → Type 0) → Type 0
IfTooLong (Ok all) P = ⊤
IfTooLong (Err ReadFault) P = ⊤
IfTooLong (Err (TooLong front)) P = P front
IfTooLong (Err Memory) P = ⊤

-- The answer is ReadFault.
abbrev pub IsReadFault : {T : Type 0} → Result T ReadAllError → Type 0
IsReadFault (Ok all) = ⊥
IsReadFault (Err ReadFault) = ⊤
IsReadFault (Err (TooLong front)) = ⊥
IsReadFault (Err Memory) = ⊥
