-- What is known of reserved names.
use Rattle.std.specs.Prelude.{◌≡◌, ℕ, cond, List, bytes_eq, Option, Some, None}
use Rattle.std.specs.Option.{option_or, option_map}
use Rattle.indexmap.specs.IndexMap.{get}
use Rattle.lisp_data.specs.Values.{Name}
use Rattle.terms.specs.Primitives.{primitive, operands, lookup}
use Rattle.terms.specs.Worlds.{is_in}
use Rattle.worlds.specs.Names.{given}
use Rattle.worlds.specs.declared.names.Word.{Word}
use Rattle.worlds.specs.declared.names.Word.TheVariants.{Primitive, Given}
use Rattle.worlds.specs.declared.names.Words.{Words}

-- what the words say of a name
abbrev pub word_at : Words → Name → Option Word
word_at words n = get bytes_eq words.places n

-- the words with these names
abbrev pub AddsGiven : List Name → Words → Words → Type 0
AddsGiven names old new = (n : Name) → word_at new n ≡ cond (is_in names n) (Some Given) (word_at old n)

-- the words with these primitives, which have so many arguments
abbrev pub AddsPrimitives : List (Name × ℕ) → Words → Words → Type 0
AddsPrimitives table old new = (n : Name) → word_at new n ≡ option_or (option_map (λ k. Primitive k) (lookup table n)) (word_at old n)

-- the words are the reserved names
abbrev pub Knows : Words → Type 0
Knows words =
    (n : Name) → word_at words n ≡ option_or (option_map (λ k. Primitive k) (option_map operands (primitive n))) (cond (is_in given n) (Some Given) None)
