-- Atoms, case by case.
use Rattle.std.proofs.Common.{◌≡◌, ℕ, ◌+◌, ◌<◌, ◌^◌, ℤ, pos, negsuc, Bool, true, false, cond, ◌&&◌, ◌||◌, nat_eq, nat_lt, List, [], ◌∷◌, length, get_or, drop, take, min, refl, ap, sym, subst, ◌∙◌, arith, ltb-true}
use Rattle.std.proofs.lemmas.Bool.Decides.{nat_tests}
use Rattle.std.proofs.lemmas.List.{take_rest, take_min}
use Rattle.std.specs.List.{fold, list_all}
use Rattle.std.specs.Int.{w128}
use Rattle.std.specs.Prelude.{FitsSigned}
use Rattle.std.specs.Char.{is_ascii_digit, digit_value}
use Rattle.std.specs.Str.Parse.{IsNumeral, AllDigits, signed_digits_value, without_leading_sign}
use Rattle.lisp_data.specs.Atoms.{Leaf, Integer, Wrong, integer, is_narrow, word, is_odd, odd, points, leaf}
use Rattle.lisp_data.specs.Numbers.{is_sign, is_exponent, is_integer, is_bad_number, begins_number}
use Rattle.lisp_data.specs.view.Automaton.{grown, after_digit, after_other, shape_of, shaped}
use Rattle.lisp_data.specs.declared.atom.Shape.{Shape}
use Rattle.lisp_data.specs.declared.atom.Shape.TheVariants.{Start, Sign, Whole, Slash, Ratio, Bare, Pointed, Part, Exponent, ExponentSign, Power, NoNumber}
use Rattle.lisp_data.proofs.NumberForms.{is_whole, is_bad, is_front, integer-shape, bad-shape, front-shape}
use Rattle.lisp_data.specs.declared.code.Code.TheVariants.{BadByte, BadNumber, IntegerTooWide, BookTooLong}
use Rattle.lisp_data.specs.declared.limits.TheConstants.{MAX_SYMBOL}

or-nothing : (a b : Bool) → (a || b) ≡ (a || (true && b))
or-nothing true b = refl
or-nothing false b = refl

or-none : (a b : Bool) → a ≡ (a || (false && b))
or-none true b = refl
or-none false b = refl

pub is_odd-at : (xs : List ℕ) → 0 < length xs → is_odd xs ≡ (nat_eq (get_or xs 0 0) 35 || (nat_eq (length xs) 1 && nat_eq (get_or xs 0 0) 58))
is_odd-at [] h = absurd (omega arith)
is_odd-at (x ∷ []) h = or-nothing (nat_eq x 35) (nat_eq x 58)
is_odd-at (x ∷ y ∷ xs) h =
    let long : nat_eq (length (x ∷ y ∷ xs)) 1 ≡ false = grind (arith, nat_tests) in
    or-none (nat_eq x 35) (nat_eq x 58) ∙ ap (λ c. nat_eq x 35 || (c && nat_eq x 58)) (sym long)

pub ruleset odds = (is_odd-at)

-- what is left of an atom's cases, by its shape
shape-cases : (cut : Bool) (r : List ℕ) (s : Shape) →
    cond (cut && is_front s) (Wrong BookTooLong (length r)) (cond (is_whole s) (integer (signed_digits_value 10 r)) (cond (is_bad s) (Wrong BadNumber 0) (word cut r))) ≡ shaped cut r s
shape-cases true r Start = refl
shape-cases true r Sign = refl
shape-cases true r Whole = refl
shape-cases true r Slash = refl
shape-cases true r Ratio = refl
shape-cases true r Bare = refl
shape-cases true r Pointed = refl
shape-cases true r Part = refl
shape-cases true r Exponent = refl
shape-cases true r ExponentSign = refl
shape-cases true r Power = refl
shape-cases true r NoNumber = refl
shape-cases false r Start = refl
shape-cases false r Sign = refl
shape-cases false r Whole = refl
shape-cases false r Slash = refl
shape-cases false r Ratio = refl
shape-cases false r Bare = refl
shape-cases false r Pointed = refl
shape-cases false r Part = refl
shape-cases false r Exponent = refl
shape-cases false r ExponentSign = refl
shape-cases false r Power = refl
shape-cases false r NoNumber = refl

pub leaf-is : (cut : Bool) (r : List ℕ) → leaf cut r ≡ cond (is_odd r) (odd cut r) (cond (list_all (λ b. nat_eq b 46) r) (points cut r) (shaped cut r (shape_of r)))
unfolding leaf
leaf-is cut r =
    let numbers : cond (cut && begins_number r) (Wrong BookTooLong (length r)) (cond (is_integer r) (integer (signed_digits_value 10 r)) (cond (is_bad_number r) (Wrong BadNumber 0) (word cut r))) ≡ shaped cut r (shape_of r) =
    ((λ i. cond (cut && front-shape r i) (Wrong BookTooLong (length r)) (cond (integer-shape r i) (integer (signed_digits_value 10 r)) (cond (bad-shape r i) (Wrong BadNumber 0) (word cut r)))) ∙ shape-cases cut r (shape_of r)) in
    ap (λ x. cond (is_odd r) (odd cut r) (cond (list_all (λ b. nat_eq b 46) r) (points cut r) x)) numbers

-- an odd atom is neither an integer nor a symbol
pub odd-leaf : (r : List ℕ) → is_odd r ≡ true → leaf false r ≡ Wrong BadByte 0
odd-leaf r h = leaf-is false r ∙ ap (λ c. cond c (Wrong BadByte 0) (cond (list_all (λ b. nat_eq b 46) r) (points false r) (shaped false r (shape_of r)))) h

-- what the cases of an atom come to, where it is an integer of 128 bits
pub integer-leaf : (r : List ℕ) (z : ℤ) → is_odd r ≡ false → list_all (λ b. nat_eq b 46) r ≡ false → is_integer r ≡ true → signed_digits_value 10 r ≡ z → is_narrow z ≡ true → leaf false r ≡ Integer z
unfolding leaf
integer-leaf r z h p whole value narrow =
    let later : Leaf = cond (is_bad_number r) (Wrong BadNumber 0) (word false r) in
    ap (λ c. cond c (odd false r) (cond (list_all (λ b. nat_eq b 46) r) (points false r) (cond (is_integer r) (integer (signed_digits_value 10 r)) later))) h
    ∙ ap (λ c. cond c (points false r) (cond (is_integer r) (integer (signed_digits_value 10 r)) later)) p
    ∙ ap (λ c. cond c (integer (signed_digits_value 10 r)) later) whole ∙ ap integer value ∙ ap (λ c. cond c (Integer z) (Wrong IntegerTooWide 0)) narrow

-- the prefix of a text, cut at its end
pub front-cut : (r : List ℕ) → take (min (length r) (MAX_SYMBOL + 1)) r ≡ take (MAX_SYMBOL + 1) r
front-cut r = let e : min (length r) (MAX_SYMBOL + 1) ≡ min (MAX_SYMBOL + 1) (length r) = omega arith in ap (λ n. take n r) e ∙ take_min (MAX_SYMBOL + 1) r

pub ruleset atoms = (leaf-is, take_rest, front-cut)

-- a shape that no integer has, nor anything that begins with it
abbrev IsLate : Shape → Type 0
IsLate Start = ⊥
IsLate Sign = ⊥
IsLate Whole = ⊥
IsLate _ = Unit {0}

either : (c : Bool) (s t : Shape) → IsLate s → IsLate t → IsLate (cond c s t)
either true s t h k = h
either false s t h k = k

late-digit : (s : Shape) → IsLate s → IsLate (after_digit s)
late-digit Start h = absurd h
late-digit Sign h = absurd h
late-digit Whole h = absurd h
late-digit Slash h = tt
late-digit Ratio h = tt
late-digit Bare h = tt
late-digit Pointed h = tt
late-digit Part h = tt
late-digit Exponent h = tt
late-digit ExponentSign h = tt
late-digit Power h = tt
late-digit NoNumber h = tt

late-other : (s : Shape) (b : ℕ) → IsLate s → IsLate (after_other s b)
late-other Start b h = absurd h
late-other Sign b h = absurd h
late-other Whole b h = absurd h
late-other Slash b h = tt
late-other Ratio b h = tt
late-other Bare b h = tt
late-other Pointed b h = either (is_exponent b) Exponent NoNumber tt tt
late-other Part b h = either (is_exponent b) Exponent NoNumber tt tt
late-other Exponent b h = either (is_sign b) ExponentSign NoNumber tt tt
late-other ExponentSign b h = tt
late-other Power b h = tt
late-other NoNumber b h = tt

late-fold : (s : Shape) (t : List ℕ) → IsLate s → IsLate (fold grown s t)
late-fold s [] h = h
late-fold s (b ∷ t) h = late-fold (grown s b) t (either (is_ascii_digit b) (after_digit s) (after_other s b) (late-digit s h) (late-other s b h))

late_whole : (s : Shape) (t : List ℕ) → IsLate s → fold grown s t ≡ Whole → ⊥
late_whole s t h e = subst IsLate e (late-fold s t h)

digit-value : (b : ℕ) → is_ascii_digit b ≡ true → digit_value b < 10
digit-value b h = grind (arith, nat_tests)

-- digits after digits
whole-more : (b : ℕ) (t : List ℕ) (c : Bool) → is_ascii_digit b ≡ c → (fold grown Whole t ≡ Whole → AllDigits 10 t) → fold grown (cond c Whole (after_other Whole b)) t ≡ Whole → AllDigits 10 (b ∷ t)
whole-more b t true d rest h = (digit-value b d, rest h)
whole-more b t false d rest h =
    absurd (late_whole (after_other Whole b) t (either (nat_eq b 47) Slash _ tt (either (nat_eq b 46) Pointed _ tt (either (is_exponent b) Exponent NoNumber tt tt))) h)

digits-whole : (t : List ℕ) → fold grown Whole t ≡ Whole → AllDigits 10 t
digits-whole [] h = tt
digits-whole (b ∷ t) h = whole-more b t (is_ascii_digit b) refl (λ k. digits-whole t k) h

-- one digit at least after a sign
sign-more : (b : ℕ) (t : List ℕ) (c : Bool) → is_ascii_digit b ≡ c → fold grown (cond c Whole (after_other Sign b)) t ≡ Whole → IsNumeral 10 (b ∷ t)
sign-more b t true d h = (omega arith, (digit-value b d, digits-whole t h))
sign-more b t false d h = absurd (late_whole (after_other Sign b) t (either (nat_eq b 46) Bare NoNumber tt tt) h)

digits-sign : (t : List ℕ) → fold grown Sign t ≡ Whole → IsNumeral 10 t
digits-sign [] h = cc
digits-sign (b ∷ t) h = sign-more b t (is_ascii_digit b) refl h

unsigned : (b : ℕ) (t : List ℕ) → nat_eq b 45 ≡ false → nat_eq b 43 ≡ false → b ∷ t ≡ without_leading_sign (b ∷ t)
unsigned b t h k = sym (ap (λ c. cond c t (drop (cond (nat_eq b 43) 1 0) (b ∷ t))) h ∙ ap (λ c. drop (cond c 1 0) (b ∷ t)) k)

signed : (b : ℕ) (t : List ℕ) (c : Bool) → nat_eq b 45 ≡ c → is_sign b ≡ true → t ≡ without_leading_sign (b ∷ t)
unfolding is_sign
signed b t true h k = sym (ap (λ c. cond c t (drop (cond (nat_eq b 43) 1 0) (b ∷ t))) h)
signed b t false h k =
    let plus : nat_eq b 43 ≡ true = grind (arith, nat_tests) in
    sym (ap (λ c. cond c t (drop (cond (nat_eq b 43) 1 0) (b ∷ t))) h ∙ ap (λ c. drop (cond c 1 0) (b ∷ t)) plus)

start-more : (b : ℕ) (t : List ℕ) (c d : Bool) → is_ascii_digit b ≡ c → is_sign b ≡ d → fold grown (cond c Whole (cond d Sign (cond (nat_eq b 46) Bare NoNumber))) t ≡ Whole → IsNumeral 10 (without_leading_sign (b ∷ t))
start-more b t true d e f h =
    let minus : nat_eq b 45 ≡ false = grind (arith, nat_tests) in
    let plus : nat_eq b 43 ≡ false = grind (arith, nat_tests) in
    subst (IsNumeral 10) (unsigned b t minus plus) (omega arith, (digit-value b e, digits-whole t h))
start-more b t false true e f h = subst (IsNumeral 10) (signed b t (nat_eq b 45) refl f) (digits-sign t h)
start-more b t false false e f h = absurd (late_whole _ t (either (nat_eq b 46) Bare NoNumber tt tt) h)

-- what has the shape of an integer is a numeral after a sign or none
pub numeral : (r : List ℕ) → shape_of r ≡ Whole → IsNumeral 10 (without_leading_sign r)
numeral [] h = cc
numeral (b ∷ t) h = start-more b t (is_ascii_digit b) (is_sign b) refl refl h

wide-at : (z : ℤ) → ¬ (FitsSigned w128 z) → Wrong IntegerTooWide 0 ≡ integer z
wide-at (pos n) h = on (nat_lt n (2 ^ 127)) refl
  where
    on : (c : Bool) → nat_lt n (2 ^ 127) ≡ c → Wrong IntegerTooWide 0 ≡ cond c (Integer (pos n)) (Wrong IntegerTooWide 0)
    on true e = absurd (h (record { sfits = ltb-true n (2 ^ 127) e }))
    on false e = refl
wide-at (negsuc n) h = on (nat_lt n (2 ^ 127)) refl
  where
    on : (c : Bool) → nat_lt n (2 ^ 127) ≡ c → Wrong IntegerTooWide 0 ≡ cond c (Integer (negsuc n)) (Wrong IntegerTooWide 0)
    on true e = absurd (h (record { sfits = ltb-true n (2 ^ 127) e }))
    on false e = refl

-- a numeral that is no i128 is too wide
pub too_wide : (r : List ℕ) → shape_of r ≡ Whole → ¬ (IsNumeral 10 (without_leading_sign r) × FitsSigned w128 (signed_digits_value 10 r)) → Wrong IntegerTooWide 0 ≡ integer (signed_digits_value 10 r)
too_wide r h k = wide-at (signed_digits_value 10 r) (λ f. k (numeral r h, f))
