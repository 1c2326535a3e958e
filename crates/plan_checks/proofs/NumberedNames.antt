-- A word of conditions with a number behind it is the text of a symbol.
use Rattle.std.proofs.Common.{◌≡◌, ℕ, zero, suc, ◌+◌, ◌%◌, ◌^◌, ◌<◌, ◌≤◌, Bool, true, false, cond, if◌then◌else◌, ◌&&◌, not, nat_eq, nat_lt, nat_le, Some, None, List, [], ◌∷◌, ◌++◌, length, map, take, drop, refl, ap, sym, subst, ◌∙◌, arith}
use Rattle.std.proofs.lemmas.Bool.{and_parts}
use Rattle.std.proofs.lemmas.Bool.Decides.{nat_tests}
use Rattle.std.proofs.lemmas.Fmt.{decimal_by_steps, decimal_nonempty, length-decimal-le}
use Rattle.std.proofs.lemmas.List.{length-append}
use Rattle.std.proofs.lemmas.List.Folds.{list_all-append}
use Rattle.std.specs.Char.{is_ascii_digit, to_ascii_uppercase as up}
use Rattle.std.specs.Fmt.{decimal}
use Rattle.std.specs.List.{fold, list_all, position, prefix_len}
use Rattle.lisp_data.specs.Atoms.{Named, Wrong, is_delimiter, in_atom, word_by, leaf}
use Rattle.lisp_data.specs.Numbers.{is_sign}
use Rattle.lisp_data.specs.SymbolText.{is_symbol_text, is_named}
use Rattle.lisp_data.specs.view.Automaton.{grown, shape_of, shaped}
use Rattle.lisp_data.specs.declared.code.Code.TheVariants.{SymbolTooLong}
use Rattle.lisp_data.proofs.AtomSteps.{leaf-is}
use Rattle.terms.proofs.Names.{name_self}
use Rattle.plan_checks.specs.Numbered.{is_word_byte, IsConditionWord}

both : (a b : Bool) → a ≡ true → b ≡ true → (a && b) ≡ true
both a b p q = λ i. p i && q i

-- bytes of words
abbrev AreBytes : List ℕ → Type 0
AreBytes bs = list_all is_word_byte bs ≡ true

both_lists : (xs ys : List ℕ) → AreBytes xs → AreBytes ys → AreBytes (xs ++ ys)
both_lists xs ys h k = list_all-append is_word_byte xs ys ∙ both (list_all is_word_byte xs) (list_all is_word_byte ys) h k

-- digits are such bytes
digit : (n : ℕ) → n < 10 → AreBytes ((48 + n) ∷ [])
digit n h = let e : is_word_byte (48 + n) ≡ true = grind (arith, nat_tests) in both (is_word_byte (48 + n)) true e refl

rest_below : (n : ℕ) → n % 10 < 10
rest_below n = omega arith

number_bytes : (n : ℕ) → n < 2 ^ 64 → AreBytes (decimal n)
number_bytes n small = decimal_by_steps (λ m ds. AreBytes ds) digit (λ m ds h k. both_lists ds ((48 + m % 10) ∷ []) k (digit (m % 10) (rest_below m))) n small

-- what such bytes are
in_atoms : (b : ℕ) → is_word_byte b ≡ true → in_atom b ≡ true
unfolding in_atom is_delimiter
in_atoms b h = grind (arith, nat_tests)

not_colon : (b : ℕ) → is_word_byte b ≡ true → not (nat_eq b 58) ≡ true
not_colon b h = grind (arith, nat_tests)

as_upper : (b : ℕ) → is_word_byte b ≡ true → up b ≡ b
as_upper b h = grind (arith, nat_tests)

all_in_atoms : (bs : List ℕ) → AreBytes bs → list_all in_atom bs ≡ true
all_in_atoms [] h = refl
all_in_atoms (b ∷ bs) h =
    let p = and_parts (is_word_byte b) (list_all is_word_byte bs) h in
    both (in_atom b) (list_all in_atom bs) (in_atoms b p.0) (all_in_atoms bs p.1)

no_colons : (k : ℕ) (bs : List ℕ) → AreBytes bs → list_all (λ b. not (nat_eq b 58)) (take k bs) ≡ true
no_colons zero [] h = refl
no_colons zero (b ∷ bs) h = refl
no_colons (suc k) [] h = refl
no_colons (suc k) (b ∷ bs) h =
    let p = and_parts (is_word_byte b) (list_all is_word_byte bs) h in
    both (not (nat_eq b 58)) (list_all (λ b. not (nat_eq b 58)) (take k bs)) (not_colon b p.0) (no_colons k bs p.1)

all_upper : (bs : List ℕ) → AreBytes bs → map up bs ≡ bs
all_upper [] h = refl
all_upper (b ∷ bs) h =
    let p = and_parts (is_word_byte b) (list_all is_word_byte bs) h in
    λ i. as_upper b p.0 i ∷ all_upper bs p.1 i

-- a text without a colon has none at any place
whole_prefix : (xs : List ℕ) → list_all (λ b. not (nat_eq b 58)) xs ≡ true → prefix_len (λ b. not (nat_eq b 58)) xs ≡ length xs
whole_prefix [] h = refl
whole_prefix (x ∷ xs) h =
    let p = and_parts (not (nat_eq x 58)) (list_all (λ b. not (nat_eq b 58)) xs) h in
    let more : 1 + length xs ≡ length (x ∷ xs) = omega arith in
    ap (λ b. cond b (1 + prefix_len (λ b. not (nat_eq b 58)) xs) 0) p.0 ∙ ap (λ n. 1 + n) (whole_prefix xs p.1) ∙ more

not_below : (n m : ℕ) → n ≡ m → nat_lt n m ≡ false
not_below n m h = grind (arith, nat_tests)

no_place : (xs : List ℕ) → list_all (λ b. not (nat_eq b 58)) xs ≡ true → position (λ b. nat_eq b 58) xs ≡ None
no_place xs h =
    let n = prefix_len (λ b. not (nat_eq b 58)) xs in
    ap (λ b. cond b (Some n) None) (not_below n (length xs) (whole_prefix xs h))

-- what begins with a colon is no number
colon_first : (bs : List ℕ) → fold grown (shape_of (58 ∷ [])) bs ≡ shape_of (58 ∷ [])
unfolding is_sign
colon_first [] = refl
colon_first (b ∷ bs) = ap (λ s. fold grown s bs) (stays (is_ascii_digit b)) ∙ colon_first bs
  where
    stays : (c : Bool) → (if c then shape_of (58 ∷ []) else shape_of (58 ∷ [])) ≡ shape_of (58 ∷ [])
    stays true = refl
    stays false = refl

short : (bs : List ℕ) → length bs < 255 → nat_lt 255 (length (58 ∷ bs)) ≡ false
short bs h = grind (arith, nat_tests)

-- a colon alone is no symbol
keyword_leaf : (bs : List ℕ) → AreBytes bs → 0 < length bs → length bs < 255 → leaf false (58 ∷ bs) ≡ Named (58 ∷ bs)
unfolding is_sign
keyword_leaf [] h some few = absurd (omega arith)
keyword_leaf (b ∷ bs) h some few =
    let r = 58 ∷ b ∷ bs in
    leaf-is false r ∙ ap (shaped false r) (colon_first (b ∷ bs)) ∙ ap (word_by false r) (no_place (drop 1 (take 256 r)) (no_colons 255 (b ∷ bs) h))
    ∙ ap (λ c. if c then Wrong SymbolTooLong 255 else Named (map up r)) (short (b ∷ bs) few) ∙ ap (λ t. Named (58 ∷ t)) (all_upper (b ∷ bs) h)

keyword : (bs : List ℕ) → AreBytes bs → 0 < length bs → length bs < 255 → is_symbol_text (58 ∷ bs) ≡ true
unfolding is_symbol_text in_atom is_delimiter
keyword bs h some few =
    let r = 58 ∷ bs in
    both (list_all in_atom r) (is_named (leaf false r) r) (all_in_atoms bs h) (ap (λ l. is_named l r) (keyword_leaf bs h some few) ∙ name_self r)

below_twenty : (k : ℕ) → k < 2 ^ 64 → k < 10 ^ 20
below_twenty k h = omega arith

lengths : (bs ds : List ℕ) → length bs ≤ 99 → length ds ≤ 20 → 0 < length ds → (0 < length (bs ++ ds)) × (length (bs ++ ds) < 255)
lengths bs ds few h some = let e = length-append bs ds in (omega arith, omega arith)

keyword_number : (bs : List ℕ) (k : ℕ) → AreBytes bs → length bs ≤ 99 → k < 2 ^ 64 → is_symbol_text (58 ∷ (bs ++ decimal k)) ≡ true
keyword_number bs k h few small =
    let l = lengths bs (decimal k) few (length-decimal-le 20 k (omega arith) (below_twenty k small) small) (decimal_nonempty k small) in
    keyword (bs ++ decimal k) (both_lists bs (decimal k) h (number_bytes k small)) l.0 l.1

-- the name of the condition of a number
pub number_is_symbol : (word : List ℕ) (k : ℕ) → IsConditionWord word → k < 2 ^ 64 → is_symbol_text (word ++ decimal k) ≡ true
number_is_symbol [] k h small = absurd (cc)
number_is_symbol (b ∷ bs) k h small =
    let p = and_parts (nat_eq b 58 && list_all is_word_byte bs) (nat_le (length bs) 99) h in
    let q = and_parts (nat_eq b 58) (list_all is_word_byte bs) p.0 in
    let colon : b ≡ 58 = at_colon b q.0 in
    let few : length bs ≤ 99 = at_most (length bs) p.1 in
    subst (λ c. is_symbol_text (c ∷ (bs ++ decimal k)) ≡ true) (sym colon) (keyword_number bs k q.1 few small)
  where
    at_colon : (b : ℕ) → nat_eq b 58 ≡ true → b ≡ 58
    at_colon b e = grind (arith, nat_tests)

    at_most : (n : ℕ) → nat_le n 99 ≡ true → n ≤ 99
    at_most n e = grind (arith, nat_tests)

pub ruleset numbered_names = (number_is_symbol)
