-- Names of conditions that end with a number are symbols.
use Rattle.std.proofs.Common.{◌≡◌, ℕ, zero, suc, ◌+◌, ◌%◌, ◌^◌, ◌<◌, ◌≤◌, Bool, true, false, cond, if◌then◌else◌, ◌&&◌, not, nat_eq, nat_lt, Some, None, List, [], ◌∷◌, ◌++◌, codes, length, map, take, drop, refl, ap, ◌∙◌, arith}
use Rattle.std.proofs.lemmas.Bool.Decides.{nat_tests}
use Rattle.std.proofs.lemmas.Fmt.{decimal_by_steps, length-decimal-le}
use Rattle.std.specs.Char.{is_ascii_digit, to_ascii_uppercase as up}
use Rattle.std.specs.Fmt.{decimal}
use Rattle.std.specs.List.{fold, list_all, position, prefix_len}
use Rattle.lisp_data.specs.Atoms.{Named, Wrong, is_delimiter, in_atom, word_by, leaf}
use Rattle.lisp_data.specs.Numbers.{is_sign}
use Rattle.lisp_data.specs.SymbolText.{is_symbol_text, is_named}
use Rattle.lisp_data.specs.view.Automaton.{grown, shape_of, shaped}
use Rattle.lisp_data.specs.declared.code.Code.TheVariants.{SymbolTooLong}
use Rattle.lisp_data.proofs.AtomSteps.{leaf-is}
use Rattle.terms.proofs.Names.{name_self}

both : (a b : Bool) → a ≡ true → b ≡ true → (a && b) ≡ true
both a b p q = λ i. p i && q i

and_parts : (a b : Bool) → (a && b) ≡ true → (a ≡ true) × (b ≡ true)
and_parts true b h = (refl, h)
and_parts false b h = absurd (cc)

-- all are digits
abbrev AreDigits : List ℕ → Type 0
AreDigits ds = list_all is_ascii_digit ds ≡ true

digit_after : (ds : List ℕ) (b : ℕ) → AreDigits ds → is_ascii_digit b ≡ true → AreDigits (ds ++ b ∷ [])
digit_after [] b h k = both (is_ascii_digit b) true k refl
digit_after (d ∷ ds) b h k =
    let p = and_parts (is_ascii_digit d) (list_all is_ascii_digit ds) h in
    both (is_ascii_digit d) (list_all is_ascii_digit (ds ++ b ∷ [])) p.0 (digit_after ds b p.1 k)

glyph : (n : ℕ) → n < 10 → is_ascii_digit (48 + n) ≡ true
glyph n h = grind (arith, nat_tests)

rest_below : (n : ℕ) → n % 10 < 10
rest_below n = omega arith

decimal_digits : (n : ℕ) → n < 2 ^ 64 → AreDigits (decimal n)
decimal_digits n small =
    decimal_by_steps (λ m ds. AreDigits ds) (λ m h. both (is_ascii_digit (48 + m)) true (glyph m h) refl) (λ m ds h k. digit_after ds (48 + m % 10) k (glyph (m % 10) (rest_below m))) n small

-- what digits are
in_atoms : (b : ℕ) → is_ascii_digit b ≡ true → in_atom b ≡ true
unfolding in_atom is_delimiter
in_atoms b h = grind (arith, nat_tests)

not_colon : (b : ℕ) → is_ascii_digit b ≡ true → not (nat_eq b 58) ≡ true
not_colon b h = grind (arith, nat_tests)

as_upper : (b : ℕ) → is_ascii_digit b ≡ true → up b ≡ b
as_upper b h = grind (arith, nat_tests)

all_in_atoms : (ds : List ℕ) → AreDigits ds → list_all in_atom ds ≡ true
all_in_atoms [] h = refl
all_in_atoms (d ∷ ds) h =
    let p = and_parts (is_ascii_digit d) (list_all is_ascii_digit ds) h in
    both (in_atom d) (list_all in_atom ds) (in_atoms d p.0) (all_in_atoms ds p.1)

no_colons : (k : ℕ) (ds : List ℕ) → AreDigits ds → list_all (λ b. not (nat_eq b 58)) (take k ds) ≡ true
no_colons zero [] h = refl
no_colons zero (d ∷ ds) h = refl
no_colons (suc k) [] h = refl
no_colons (suc k) (d ∷ ds) h =
    let p = and_parts (is_ascii_digit d) (list_all is_ascii_digit ds) h in
    both (not (nat_eq d 58)) (list_all (λ b. not (nat_eq b 58)) (take k ds)) (not_colon d p.0) (no_colons k ds p.1)

all_upper : (ds : List ℕ) → AreDigits ds → map up ds ≡ ds
all_upper [] h = refl
all_upper (d ∷ ds) h =
    let p = and_parts (is_ascii_digit d) (list_all is_ascii_digit ds) h in
    λ i. as_upper d p.0 i ∷ all_upper ds p.1 i

-- a text without a colon has none at any place
whole_prefix : (xs : List ℕ) → list_all (λ b. not (nat_eq b 58)) xs ≡ true → prefix_len (λ b. not (nat_eq b 58)) xs ≡ length xs
whole_prefix [] h = refl
whole_prefix (x ∷ xs) h =
    let p = and_parts (not (nat_eq x 58)) (list_all (λ b. not (nat_eq b 58)) xs) h in
    let more : 1 + length xs ≡ length (x ∷ xs) = omega arith in
    ap (λ b. cond b (1 + prefix_len (λ b. not (nat_eq b 58)) xs) 0) p.0 ∙ ap (λ n. 1 + n) (whole_prefix xs p.1) ∙ more

not_below : (n m : ℕ) → n ≡ m → nat_lt n m ≡ false
not_below n m h = grind (arith, nat_tests)

no_place : (xs : List ℕ) → list_all (λ b. not (nat_eq b 58)) xs ≡ true → position (λ b. nat_eq b 58) xs ≡ None
no_place xs h =
    let n = prefix_len (λ b. not (nat_eq b 58)) xs in
    ap (λ b. cond b (Some n) None) (not_below n (length xs) (whole_prefix xs h))

-- what begins with a colon is no number
colon_first : (ds : List ℕ) → fold grown (shape_of (58 ∷ [])) ds ≡ shape_of (58 ∷ [])
unfolding is_sign
colon_first [] = refl
colon_first (d ∷ ds) = ap (λ s. fold grown s ds) (stays (is_ascii_digit d)) ∙ colon_first ds
  where
    stays : (b : Bool) → (if b then shape_of (58 ∷ []) else shape_of (58 ∷ [])) ≡ shape_of (58 ∷ [])
    stays true = refl
    stays false = refl

short : (ds : List ℕ) → length ds ≤ 20 → nat_lt 255 (length (codes ":MEASURE-DECREASES-" ++ ds)) ≡ false
short ds h = grind (arith, nat_tests)

pub numbered : (ds : List ℕ) → AreDigits ds → length ds ≤ 20 → is_symbol_text (codes ":MEASURE-DECREASES-" ++ ds) ≡ true
unfolding is_symbol_text in_atom is_delimiter is_sign
numbered ds h few =
    let r = codes ":MEASURE-DECREASES-" ++ ds in
    let upper : map up r ≡ r = ap (λ t. codes ":MEASURE-DECREASES-" ++ t) (all_upper ds h) in
    let is_leaf : leaf false r ≡ Named r =
    leaf-is false r ∙ ap (shaped false r) (colon_first ds) ∙ ap (word_by false r) (no_place (drop 1 (take 256 r)) (no_colons 237 ds h))
    ∙ ap (λ b. if b then Wrong SymbolTooLong 255 else Named (map up r)) (short ds few) ∙ ap Named upper in
    both (list_all in_atom r) (is_named (leaf false r) r) (all_in_atoms ds h) (ap (λ l. is_named l r) is_leaf ∙ name_self r)

-- the name of the condition of a call
pub decreases_is_symbol : (k : ℕ) → k < 2 ^ 64 → is_symbol_text (codes ":MEASURE-DECREASES-" ++ decimal k) ≡ true
decreases_is_symbol k small = numbered (decimal k) (decimal_digits k small) (length-decimal-le 20 k (omega arith) (below k small) small)
  where
    below : (k : ℕ) → k < 2 ^ 64 → k < 10 ^ 20
    below k h = omega arith

pub ruleset condition_names = (decreases_is_symbol)
