-- The decimal text of an integer is that integer, as an atom.
use Rattle.std.proofs.Common.{◌≡◌, ℕ, suc, ◌+◌, ◌<◌, ◌^◌, Bool, true, false, cond, ◌&&◌, ◌||◌, nat_eq, nat_lt, List, [], ◌∷◌, drop, refl, ap, ◌∙◌, arith, ltb-true}
use Rattle.std.specs.Prelude.{ℤ, pos, negsuc, neg_ℤ}
use Rattle.std.proofs.lemmas.Bool.Decides.{nat_tests}
use Rattle.std.proofs.lemmas.Fmt.{decimal_is_IsNumeral_wide}
use Rattle.std.specs.List.{list_all}
use Rattle.std.specs.Char.{is_ascii_digit, digit_value}
use Rattle.std.specs.Fmt.{decimal, signed_decimal}
use Rattle.std.specs.Str.Parse.{AllDigits, IsNumeral, digits_value, signed_digits_value, without_leading_sign}
use Rattle.lisp_data.specs.Atoms.{in_atom, is_delimiter, is_narrow, Integer, is_odd, leaf}
use Rattle.lisp_data.specs.Numbers.{is_sign, behind, optional, sign, digits}
use Rattle.lisp_data.proofs.AtomSteps.{integer-leaf}

digit-range : (b : ℕ) → digit_value b < 10 → is_ascii_digit b ≡ true
digit-range b h = grind (arith, nat_tests)

digit-atom : (b : ℕ) → digit_value b < 10 → in_atom b ≡ true
unfolding in_atom is_delimiter
digit-atom b h = grind (arith, nat_tests)

digit-apart : (b k : ℕ) → digit_value b < 10 → k < 48 → nat_eq b k ≡ false
digit-apart b k h l = grind (arith, nat_tests)

digit-colon : (b : ℕ) → digit_value b < 10 → nat_eq b 58 ≡ false
digit-colon b h = grind (arith, nat_tests)

digits-all : (ds : List ℕ) → AllDigits 10 ds → list_all in_atom ds ≡ true
digits-all [] h = refl
digits-all (b ∷ ds) h = λ i. both (in_atom b) (list_all in_atom ds) (digit-atom b h.0) (digits-all ds h.1) i
  where
    both : (a c : Bool) → a ≡ true → c ≡ true → (a && c) ≡ true
    both a c p q = λ i. p i && q i

digits-list : (ds : List ℕ) → AllDigits 10 ds → list_all is_ascii_digit ds ≡ true
digits-list [] h = refl
digits-list (b ∷ ds) h = λ i. digit-range b h.0 i && digits-list ds h.1 i

or-true : (a b : Bool) → b ≡ true → (a || b) ≡ true
or-true true b h = refl
or-true false b h = h

or-left : (a b : Bool) → a ≡ true → (a || b) ≡ true
or-left a b h = ap (λ c. c || b) h

odd-first : (b : ℕ) (t : List ℕ) → nat_eq b 35 ≡ false → nat_eq b 58 ≡ false → is_odd (b ∷ t) ≡ false
odd-first b [] h k = λ i. h i || k i
odd-first b (c ∷ t) h k = h

digits-leaf : (ds : List ℕ) (n : ℕ) → IsNumeral 10 ds → digits_value 10 ds ≡ n → is_narrow (pos n) ≡ true → leaf false ds ≡ Integer (pos n)
digits-leaf [] n h v narrow = absurd (omega arith)
digits-leaf (b ∷ ds) n h v narrow =
    let digit = h.1.0 in
    let minus = digit-apart b 45 digit (omega arith) in
    let plus = digit-apart b 43 digit (omega arith) in
    let same : without_leading_sign (b ∷ ds) ≡ b ∷ ds = ap (λ c. cond c ds (drop (cond (nat_eq b 43) 1 0) (b ∷ ds))) minus ∙ ap (λ c. drop (cond c 1 0) (b ∷ ds)) plus in
    let value : ℤ = pos (digits_value 10 (without_leading_sign (b ∷ ds))) in
    let unsigned : signed_digits_value 10 (b ∷ ds) ≡ pos (digits_value 10 (b ∷ ds)) = ap (λ c. cond c (neg_ℤ value) value) minus ∙ ap (λ t. pos (digits_value 10 t)) same in
    integer-leaf (b ∷ ds) (pos n) (odd-first b ds (digit-apart b 35 digit (omega arith)) (digit-colon b digit))
    (ap (λ c. c && list_all (λ b. nat_eq b 46) ds) (digit-apart b 46 digit (omega arith)))
    (or-true (behind (λ x. optional sign (b ∷ x)) digits ds) (digits (b ∷ ds)) (digits-list (b ∷ ds) h.1))
    (unsigned ∙ ap pos v) narrow

minus-leaf : (ds : List ℕ) (n : ℕ) → IsNumeral 10 ds → digits_value 10 ds ≡ suc n → is_narrow (negsuc n) ≡ true → leaf false (45 ∷ ds) ≡ Integer (negsuc n)
unfolding is_sign
minus-leaf [] n h v narrow = absurd (omega arith)
minus-leaf (b ∷ ds) n h v narrow =
    integer-leaf (45 ∷ b ∷ ds) (negsuc n) refl refl
    (or-left _ _ (or-true (behind (λ x. optional sign (45 ∷ b ∷ x)) digits ds) (digits (b ∷ ds)) (digits-list (b ∷ ds) h.1)))
    (ap (λ m. neg_ℤ (pos m)) v) narrow

narrow-wide : (n : ℕ) → nat_lt n (2 ^ 127) ≡ true → n + 1 < 10 ^ 64
narrow-wide n h = omega (arith, ltb-true n (2 ^ 127) h)

-- the text of an integer of 128 bits is that integer
pub signed-leaf : (z : ℤ) → is_narrow z ≡ true → leaf false (signed_decimal z) ≡ Integer z
signed-leaf (pos n) h =
    let numeral = decimal_is_IsNumeral_wide n (omega (arith, narrow-wide n h)) in
    digits-leaf (decimal n) n numeral.0 numeral.1 h
signed-leaf (negsuc n) h =
    let numeral = decimal_is_IsNumeral_wide (suc n) (omega (arith, narrow-wide n h)) in
    minus-leaf (decimal (suc n)) n numeral.0 numeral.1 h

-- and its bytes are an atom's
pub signed-atom : (z : ℤ) → is_narrow z ≡ true → list_all in_atom (signed_decimal z) ≡ true
unfolding in_atom is_delimiter
signed-atom (pos n) h = digits-all (decimal n) (decimal_is_IsNumeral_wide n (omega (arith, narrow-wide n h))).0.1
signed-atom (negsuc n) h = digits-all (decimal (suc n)) (decimal_is_IsNumeral_wide (suc n) (omega (arith, narrow-wide n h))).0.1
