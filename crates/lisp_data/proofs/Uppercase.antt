-- Upper case keeps what an atom is.
use Rattle.std.proofs.Common.{◌≡◌, ℕ, ◌+◌, ◌<◌, Bool, true, false, cond, ◌&&◌, ◌||◌, not, nat_eq, nat_lt, Option, Some, None, List, [], ◌∷◌, length, map, take, drop, refl, ap, sym, subst, ◌∙◌, arith}
use Rattle.std.proofs.lemmas.Bool.Decides.{nat_tests}
use Rattle.std.proofs.lemmas.List.{length-map, drop-map, take-map}
use Rattle.std.proofs.lemmas.Str.Ascii.{uppercase-uppercase}
use Rattle.std.specs.List.{fold, list_all, position, prefix_len}
use Rattle.std.specs.Char.{is_ascii_digit, to_ascii_uppercase as up}
use Rattle.std.specs.Prelude.{ℤ}
use Rattle.std.specs.Str.Parse.{signed_digits_value}
use Rattle.lisp_data.specs.Atoms.{Leaf, Integer, Named, Point, Wrong, is_delimiter, in_atom, is_odd, integer, is_narrow, word_by, leaf}
use Rattle.lisp_data.specs.Numbers.{is_sign, is_exponent}
use Rattle.lisp_data.specs.view.Automaton.{grown, after_digit, after_other, shape_of, shaped}
use Rattle.lisp_data.specs.declared.atom.Shape.{Shape}
use Rattle.lisp_data.specs.declared.atom.Shape.TheVariants.{Start, Sign, Whole, Slash, Ratio, Bare, Pointed, Part, Exponent, ExponentSign, Power, NoNumber}
use Rattle.lisp_data.proofs.AtomSteps.{leaf-is}
use Rattle.std.specs.Cmp.Lexicographic.{bytes_decides}
use Rattle.lisp_data.specs.SymbolText.{NamesSymbol, IsSymbolText, is_named, is_symbol_text}
use Rattle.lisp_data.specs.declared.code.Code.TheVariants.{BadByte, BadDot, BadNumber, IntegerTooWide, SymbolTooLong}
use Rattle.lisp_data.specs.declared.limits.TheConstants.{MAX_SYMBOL}

same-byte : (b k : ℕ) → k < 65 → nat_eq (up b) k ≡ nat_eq b k
same-byte b k h = grind (arith, nat_tests)

same-digit : (b : ℕ) → is_ascii_digit (up b) ≡ is_ascii_digit b
same-digit b = grind (arith, nat_tests)

same-sign : (b : ℕ) → is_sign (up b) ≡ is_sign b
unfolding is_sign
same-sign b = λ i. same-byte b 43 (omega arith) i || same-byte b 45 (omega arith) i

same-exponent : (b : ℕ) → is_exponent (up b) ≡ is_exponent b
unfolding is_exponent
same-exponent b = grind (arith, nat_tests)

atom-byte : (b : ℕ) → in_atom b ≡ true → in_atom (up b) ≡ true
unfolding in_atom is_delimiter
atom-byte b h = grind (arith, nat_tests)

same-other : (s : Shape) (b : ℕ) → after_other s (up b) ≡ after_other s b
same-other Start b = λ i. cond (same-sign b i) Sign (cond (same-byte b 46 (omega arith) i) Bare NoNumber)
same-other Sign b = λ i. cond (same-byte b 46 (omega arith) i) Bare NoNumber
same-other Whole b = λ i. cond (same-byte b 47 (omega arith) i) Slash (cond (same-byte b 46 (omega arith) i) Pointed (cond (same-exponent b i) Exponent NoNumber))
same-other Slash b = refl
same-other Ratio b = refl
same-other Bare b = refl
same-other Pointed b = λ i. cond (same-exponent b i) Exponent NoNumber
same-other Part b = λ i. cond (same-exponent b i) Exponent NoNumber
same-other Exponent b = λ i. cond (same-sign b i) ExponentSign NoNumber
same-other ExponentSign b = refl
same-other Power b = refl
same-other NoNumber b = refl

same-shape : (s : Shape) (r : List ℕ) → fold grown s (map up r) ≡ fold grown s r
same-shape s [] = refl
same-shape s (b ∷ t) = (λ i. fold grown (cond (same-digit b i) (after_digit s) (same-other s b i)) (map up t)) ∙ same-shape (grown s b) t

same-points : (r : List ℕ) → list_all (λ b. nat_eq b 46) (map up r) ≡ list_all (λ b. nat_eq b 46) r
same-points [] = refl
same-points (b ∷ t) = λ i. same-byte b 46 (omega arith) i && same-points t i

same-colon_len : (r : List ℕ) → prefix_len (λ b. not (nat_eq b 58)) (map up r) ≡ prefix_len (λ b. not (nat_eq b 58)) r
same-colon_len [] = refl
same-colon_len (b ∷ t) = λ i. cond (not (same-byte b 58 (omega arith) i)) (1 + same-colon_len t i) 0

same-colon : (r : List ℕ) → position (λ b. nat_eq b 58) (map up r) ≡ position (λ b. nat_eq b 58) r
same-colon r =
    ap (λ n. cond (nat_lt n (length (map up r))) (Some n) None) (same-colon_len r)
    ∙ ap (λ k. cond (nat_lt (prefix_len (λ b. not (nat_eq b 58)) r) k) (Some (prefix_len (λ b. not (nat_eq b 58)) r)) None) (length-map r up)

same-odd : (r : List ℕ) → is_odd (map up r) ≡ is_odd r
same-odd [] = refl
same-odd (b ∷ []) = λ i. same-byte b 35 (omega arith) i || same-byte b 58 (omega arith) i
same-odd (b ∷ c ∷ t) = same-byte b 35 (omega arith)

twice : (r : List ℕ) → map up (map up r) ≡ map up r
twice [] = refl
twice (b ∷ t) = λ i. uppercase-uppercase b i ∷ twice t i

same-atom : (r : List ℕ) → list_all in_atom r ≡ true → list_all in_atom (map up r) ≡ true
same-atom [] h = refl
same-atom (b ∷ t) h =
    let first : in_atom b ≡ true = and-left (in_atom b) (list_all in_atom t) h in
    let rest : list_all in_atom t ≡ true = and-right (in_atom b) (list_all in_atom t) h in
    λ i. both (in_atom (up b)) (list_all in_atom (map up t)) (atom-byte b first) (same-atom t rest) i
  where
    and-left : (a c : Bool) → (a && c) ≡ true → a ≡ true
    and-left true c e = refl
    and-left false c e = e

    and-right : (a c : Bool) → (a && c) ≡ true → c ≡ true
    and-right true c e = e
    and-right false c e = cc

    both : (a c : Bool) → a ≡ true → c ≡ true → (a && c) ≡ true
    both a c p q = λ i. p i && q i

-- the place of the colon that matters
abbrev colon_of : List ℕ → Option ℕ
colon_of r = position (λ b. nat_eq b 58) (drop 1 (take (MAX_SYMBOL + 1) r))

-- an atom of a shape, from the place of its colon
by_shape : Option ℕ → Shape → List ℕ → Leaf
by_shape o Start r = word_by false r o
by_shape o Sign r = word_by false r o
by_shape o Whole r = integer (signed_digits_value 10 r)
by_shape o Slash r = word_by false r o
by_shape o Ratio r = Wrong BadNumber 0
by_shape o Bare r = word_by false r o
by_shape o Pointed r = Wrong BadNumber 0
by_shape o Part r = Wrong BadNumber 0
by_shape o Exponent r = word_by false r o
by_shape o ExponentSign r = word_by false r o
by_shape o Power r = Wrong BadNumber 0
by_shape o NoNumber r = word_by false r o

shaped-by : (shape : Shape) (r : List ℕ) → shaped false r shape ≡ by_shape (colon_of r) shape r
unfolding by_shape
shaped-by Start r = refl
shaped-by Sign r = refl
shaped-by Whole r = refl
shaped-by Slash r = refl
shaped-by Ratio r = refl
shaped-by Bare r = refl
shaped-by Pointed r = refl
shaped-by Part r = refl
shaped-by Exponent r = refl
shaped-by ExponentSign r = refl
shaped-by Power r = refl
shaped-by NoNumber r = refl

-- an atom, from what its cases ask
parts : Bool → Bool → ℕ → Option ℕ → Shape → List ℕ → Leaf
parts true points len o shape r = Wrong BadByte 0
parts false true len o shape r = cond (nat_eq len 1) Point (Wrong BadDot 0)
parts false false len o shape r = by_shape o shape r

leaf-parts : (r : List ℕ) → leaf false r ≡ parts (is_odd r) (list_all (λ b. nat_eq b 46) r) (length r) (colon_of r) (shape_of r) r
unfolding parts
leaf-parts r = leaf-is false r ∙ on (is_odd r) (list_all (λ b. nat_eq b 46) r)
  where
    on : (odd points : Bool) → cond odd (Wrong BadByte 0) (cond points (cond (nat_eq (length r) 1) Point (Wrong BadDot 0)) (shaped false r (shape_of r)))
        ≡ parts odd points (length r) (colon_of r) (shape_of r) r
    on true points = refl
    on false true = refl
    on false false = shaped-by (shape_of r) r

raised-parts : (r : List ℕ) → leaf false (map up r) ≡ parts (is_odd r) (list_all (λ b. nat_eq b 46) r) (length r) (colon_of r) (shape_of r) (map up r)
raised-parts r =
    let front : take (MAX_SYMBOL + 1) (map up r) ≡ map up (take (MAX_SYMBOL + 1) r) = take-map up (MAX_SYMBOL + 1) r in
    let colon : colon_of (map up r) ≡ colon_of r =
    (ap (λ t. position (λ b. nat_eq b 58) (drop 1 t)) front ∙ ap (position (λ b. nat_eq b 58)) (drop-map up 1 (take (MAX_SYMBOL + 1) r)) ∙ same-colon (drop 1 (take (MAX_SYMBOL + 1) r))) in
    leaf-parts (map up r) ∙ λ i. parts (same-odd r i) (same-points r i) (length-map r up i) (colon i) (same-shape Start r i) (map up r)

integer-apart : (z : ℤ) (s : List ℕ) → integer z ≡ Named s → ⊥
integer-apart z s h = on (is_narrow z) h
  where
    on : (c : Bool) → cond c (Integer z) (Wrong IntegerTooWide 0) ≡ Named s → ⊥
    on true e = cc
    on false e = cc

word-named : (o : Option ℕ) (r s q : List ℕ) → length q ≡ length r → word_by false r o ≡ Named s → (s ≡ map up r) × (word_by false q o ≡ Named (map up q))
word-named (Some i) r s q n h = cc
word-named None r s q n h = on (nat_lt MAX_SYMBOL (length r)) refl h
  where
    on : (c : Bool) → nat_lt MAX_SYMBOL (length r) ≡ c → cond c (Wrong SymbolTooLong MAX_SYMBOL) (Named (map up r)) ≡ Named s → (s ≡ map up r) × (word_by false q None ≡ Named (map up q))
    on true e k = cc
    on false e k = (cc, ap (λ m. cond (nat_lt MAX_SYMBOL m) (Wrong SymbolTooLong MAX_SYMBOL) (Named (map up q))) n ∙ ap (λ c. cond c (Wrong SymbolTooLong MAX_SYMBOL) (Named (map up q))) e)

shaped-named : (o : Option ℕ) (shape : Shape) (r s q : List ℕ) → length q ≡ length r → by_shape o shape r ≡ Named s → (s ≡ map up r) × (by_shape o shape q ≡ Named (map up q))
unfolding by_shape
shaped-named o Start r s q n h = word-named o r s q n h
shaped-named o Sign r s q n h = word-named o r s q n h
shaped-named o Whole r s q n h = absurd (integer-apart (signed_digits_value 10 r) s h)
shaped-named o Slash r s q n h = word-named o r s q n h
shaped-named o Ratio r s q n h = cc
shaped-named o Bare r s q n h = word-named o r s q n h
shaped-named o Pointed r s q n h = cc
shaped-named o Part r s q n h = cc
shaped-named o Exponent r s q n h = word-named o r s q n h
shaped-named o ExponentSign r s q n h = word-named o r s q n h
shaped-named o Power r s q n h = cc
shaped-named o NoNumber r s q n h = word-named o r s q n h

parts-named : (odd points : Bool) (len : ℕ) (o : Option ℕ) (shape : Shape) (r s q : List ℕ) → length q ≡ length r → parts odd points len o shape r ≡ Named s →
    (s ≡ map up r) × (parts odd points len o shape q ≡ Named (map up q))
unfolding parts
parts-named true points len o shape r s q n h = cc
parts-named false true len o shape r s q n h = on (nat_eq len 1) h
  where
    on : (c : Bool) → cond c Point (Wrong BadDot 0) ≡ Named s → (s ≡ map up r) × (cond (nat_eq len 1) Point (Wrong BadDot 0) ≡ Named (map up q))
    on true e = cc
    on false e = cc
parts-named false false len o shape r s q n h = shaped-named o shape r s q n h

-- the symbol that a text names is the text in upper case
pub named-is : (text s : List ℕ) → leaf false text ≡ Named s → s ≡ map up text
named-is r s h = (parts-named _ _ _ _ _ r s (map up r) (length-map r up) (sym (leaf-parts r) ∙ h)).0

-- and its text names it again
pub names_itself : (text : List ℕ) → NamesSymbol text (map up text) → IsSymbolText (map up text)
names_itself r h =
    let again = (parts-named _ _ _ _ _ r (map up r) (map up r) (length-map r up) (sym (leaf-parts r) ∙ h.symbol)).1 in
    record { atom = same-atom r h.atom; symbol = raised-parts r ∙ again ∙ ap Named (twice r) }

-- the empty text names none
pub named-nonempty : (text s : List ℕ) → length text ≡ 0 → NamesSymbol text s → ⊥
unfolding leaf
named-nonempty [] s e h = let empty = h.symbol in cc
named-nonempty (b ∷ t) s e h = absurd (omega arith)

pub ruleset symbols = (named-is, names_itself, named-nonempty)

named-leaf : (l : Leaf) (s : List ℕ) → is_named l s ≡ true → l ≡ Named s
named-leaf (Integer z) s h = cc
named-leaf (Named text) s h = ap Named ((bytes_decides text s).0 h)
named-leaf Point s h = cc
named-leaf (Wrong code place) s h = cc

-- the test of a symbol's text is right
pub tested-text : (s : List ℕ) → is_symbol_text s ≡ true → IsSymbolText s
unfolding is_symbol_text
tested-text s h = record { atom = and-left (list_all in_atom s) (is_named (leaf false s) s) h; symbol = named-leaf (leaf false s) s (and-right (list_all in_atom s) (is_named (leaf false s) s) h) }
  where
    and-left : (a c : Bool) → (a && c) ≡ true → a ≡ true
    and-left true c e = refl
    and-left false c e = e

    and-right : (a c : Bool) → (a && c) ≡ true → c ≡ true
    and-right true c e = e
    and-right false c e = cc

pub tested-same : (t s : List ℕ) → t ≡ s → is_symbol_text s ≡ true → IsSymbolText t
tested-same t s e h = subst IsSymbolText (sym e) (tested-text s h)
