use Rattle.std.proofs.Common.{◌≡◌, ◌∙◌, ◌<◌, ◌+◌, ◌++◌, ℕ, List, [], ◌∷◌, length, map, take, ap, ap₂, sym, subst, arith, inl, inr, Bor}
use Rattle.std.proofs.lemmas.Bool.{cases_lt}
use Rattle.std.specs.List.{slice_index_or}
use Rattle.std.specs.Str.{IsUtf8}
use Rattle.std.proofs.lemmas.List.{get_or_default, map-append, take_more}
use Rattle.book_cli.specs.CommandLines.{IsModeLine}
use Rattle.book_cli.proofs.CommandReading.{Text, line_text}
use Rattle.book_cli.proofs.words.texts_of.Goals as goal

-- the word at a place isn't text, so the words are no mode line
not_text : (words items : List Text) (i : ℕ) (item bytes : Text) → items ≡ words → i < length items → item ≡ slice_index_or items i item → bytes ≡ item
    → (IsUtf8 bytes → ⊥) → IsModeLine words → ⊥
not_text words items i item bytes same lt at is other of =
    let all = line_text words of in
    let here : IsUtf8 (slice_index_or items i item) = subst (λ xs. IsUtf8 (slice_index_or xs i item)) (sym same)
    (all i item (subst (λ xs. i < length xs) same lt)) in
    other (subst IsUtf8 (sym at ∙ sym is) here)

-- one text more
one_more : (items : List Text) (texts new : List (Bor Text)) (i : ℕ) (text : Bor Text) (item bytes : Text) → map (λ s. s.now) texts ≡ take i items
    → new ≡ texts ++ text ∷ [] → i < length items → item ≡ slice_index_or items i item → bytes ≡ item → text.now ≡ bytes
    → map (λ s. s.now) new ≡ take (i + 1) items
one_more items texts new i text item bytes so_far is lt at same read =
    ap (map (λ s. s.now)) is ∙ map-append (λ s. s.now) texts (text ∷ [])
    ∙ ap₂ (λ xs x. xs ++ x ∷ []) so_far (read ∙ same ∙ at) ∙ sym (take_more items i item lt)

more_valid : (items : List Text) (i : ℕ) (item bytes : Text) → ((k : ℕ) (d : Text) → k < i → IsUtf8 (slice_index_or items k d)) → i < length items
    → item ≡ slice_index_or items i item → bytes ≡ item → IsUtf8 bytes → (k : ℕ) (d : Text) → k < i + 1 → IsUtf8 (slice_index_or items k d)
more_valid items i item bytes before lt at same valid k d below = elim (cases_lt k i) [
  | inl less ↦ before k d less
  | inr past ↦
      let here : k ≡ i = omega arith in
      let word : bytes ≡ slice_index_or items k d = same ∙ at ∙ get_or_default items i item d lt ∙ ap (λ j. slice_index_or items j d) (sym here) in
      subst IsUtf8 word valid
]

pub returns-in-Err-clause-refusal : goal.returns-in-Err-clause-refusal
returns-in-Err-clause-refusal c =
    not_text c.args.words.now c.as_slice-word-items.result.now c.loop-word.word-index c.word-item.result c.as_slice.result.now
    c.as_slice-word-items.ensures c.loop-word-test.true c.word-item.is c.as_slice.ensures c.in-Err.ensures.cases.0

pub loop-word-preserved : goal.loop-word-preserved
loop-word-preserved c = (
  one_more c.as_slice-word-items.result.now c.loop-word.texts.items c.push.new.self.items c.loop-word.word-index c.in-Ok.text c.word-item.result
      c.as_slice.result.now c.loop-word.invariant.0 c.in_ok-push-in-Ok.ensures.items c.loop-word-test.true c.word-item.is c.as_slice.ensures c.in-Ok.ensures.cases.0,
  more_valid c.as_slice-word-items.result.now c.loop-word.word-index c.word-item.result c.as_slice.result.now c.loop-word.invariant.1 c.loop-word-test.true
      c.word-item.is c.as_slice.ensures c.in-Ok.ensures.cases.1,
)

pub returns-clause-valid : goal.returns-clause-valid
returns-clause-valid c k d lt =
    let here : k < c.loop-word.word-index = omega (arith, ap length c.as_slice-word-items.ensures, c.loop-word-test.false) in
    subst (λ xs. IsUtf8 (slice_index_or xs k d)) c.as_slice-word-items.ensures (c.loop-word.invariant.1 k d here)
