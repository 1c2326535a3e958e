use Rattle.std.proofs.Common.{◌≡◌, ◌<◌, ℕ, List, map, take}
use Rattle.std.specs.List.{slice_index_or}
use Rattle.std.specs.Str.{IsUtf8}
use Rattle.book_cli.proofs.words.texts_of.Given as goal

abbrev pub invariant-loop-word : goal.invariant-loop-word
invariant-loop-word l =
    (map (λ s. s.now) l.texts.items ≡ take l.word-index l.word-items)
    × ((k : ℕ) (d : List ℕ) → k < l.word-index → IsUtf8 (slice_index_or l.word-items k d))
