-- Command lines, and what they ask for.
use Rattle.std.specs.Prelude.{◌≡◌, ◌≤◌, ◌==◌, ◌||◌, ℕ, Bool, true, false, not, List, [], ◌∷◌, ◌++◌, codes, ⊤}
use Rattle.std.specs.List.{filter, list_all, list_any, count_by, before_first, after_first}
use Rattle.std.specs.Str.{bytes_eq}
use Rattle.book_cli.specs.declared.words.Flags.{Flags}
use Rattle.book_cli.specs.declared.words.WordsError.{WordsError}
use Rattle.book_cli.specs.declared.words.WordsError.TheVariants.{Usage, Memory}

-- two hyphens, which end the flags
abbrev pub ends_flags : List ℕ → Bool
ends_flags word = bytes_eq word (codes "--")

-- the word begins with a hyphen and goes on
abbrev pub is_dashed : List ℕ → Bool
is_dashed [] = false
is_dashed (first ∷ []) = false
is_dashed (first ∷ second ∷ rest) = first == 45

-- the flags of a command line: the dashed words before the first `--`
abbrev pub flags : List (List ℕ) → List (List ℕ)
flags words = filter is_dashed (before_first ends_flags words)

-- its operands: the other words before the first `--`, and all words after it
abbrev pub operands : List (List ℕ) → List (List ℕ)
operands words = filter (λ word. not (is_dashed word)) (before_first ends_flags words) ++ after_first ends_flags words

-- the word is one of the two flags that there are
abbrev pub is_known : List ℕ → Bool
is_known word = bytes_eq (codes "--continue") word || bytes_eq (codes "--show") word

-- The words are a mode line: the one operand is `check`, each flag is one that there is, and none is given twice.
pub record IsModeLine (words : List (List ℕ)) : Type 0 where
  pub mode : operands words ≡ codes "check" ∷ []
  pub known : list_all is_known (flags words) ≡ true
  pub once : (flag : List ℕ) → count_by (bytes_eq flag) (flags words) ≤ 1

-- the line has the flag `--continue`
abbrev pub continues : List (List ℕ) → Bool
continues words = list_any (bytes_eq (codes "--continue")) (flags words)

-- the line has the flag `--show`
abbrev pub shows : List (List ℕ) → Bool
shows words = list_any (bytes_eq (codes "--show")) (flags words)

-- what the line asks for
abbrev pub flags_of : List (List ℕ) → Flags
flags_of words = record { continues = continues words; shows = shows words }

-- words are refused only where they are no mode line; running out of memory is free
abbrev pub IsRefusalOf : List (List ℕ) → WordsError → Type 0
IsRefusalOf words (Usage fault) = IsModeLine words → ⊥
IsRefusalOf words Memory = ⊤
