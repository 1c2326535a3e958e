-- What writing at the end of a text does.
use Rattle.std.specs.Prelude.{◌≡◌, List, ℕ, ◌++◌}

-- something may have been written after the old text
abbrev pub Extends : List ℕ → List ℕ → Type 0
Extends old new = (rest : List ℕ) × (new ≡ old ++ rest)
