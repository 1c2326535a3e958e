-- Conditions that are named by a word and a number.
use Rattle.std.specs.Prelude.{◌≡◌, ℕ, ◌+◌, Bool, true, false, ◌&&◌, ◌||◌, nat_eq, nat_le, List, [], ◌∷◌, ◌++◌, length}
use Rattle.std.specs.Char.{is_ascii_digit, is_ascii_uppercase}
use Rattle.std.specs.Fmt.{decimal}
use Rattle.std.specs.List.{list_all}
use Rattle.terms.specs.declared.sequent.Sequent.{Sequent}
use Rattle.plans.specs.declared.plan.Condition.{Condition}

-- a capital letter, a digit or a hyphen
abbrev pub is_word_byte : ℕ → Bool
is_word_byte b = is_ascii_uppercase b || is_ascii_digit b || nat_eq b 45

-- a colon, and at most 99 of these after it: with a number behind it, it is a symbol
abbrev pub is_condition_word : List ℕ → Bool
is_condition_word [] = false
is_condition_word (b ∷ bs) = nat_eq b 58 && list_all is_word_byte bs && nat_le (length bs) 99

abbrev pub IsConditionWord : List ℕ → Type 0
IsConditionWord word = is_condition_word word ≡ true

-- the condition of this number
abbrev pub condition : List ℕ → ℕ → Sequent → Condition
condition word k s = record { name = word ++ decimal k; sequent = s }

-- the conditions, counted from a number on
abbrev pub numbered_from : List ℕ → ℕ → List Sequent → List Condition
numbered_from word k [] = []
numbered_from word k (s ∷ ss) = condition word k s ∷ numbered_from word (k + 1) ss

-- counted from 1
abbrev pub numbered : List ℕ → List Sequent → List Condition
numbered word ss = numbered_from word 1 ss
