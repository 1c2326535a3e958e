-- The number forms, byte by byte: what a shape says of the bytes after it.
use Rattle.std.proofs.Common.{◌≡◌, ℕ, ◌<◌, Bool, true, false, cond, ◌&&◌, ◌||◌, nat_eq, List, [], ◌∷◌, ◌++◌, refl, ap, sym, subst, ◌∙◌, arith}
use Rattle.std.proofs.lemmas.Bool.Decides.{nat_tests}
use Rattle.std.proofs.Math.Bool.{or-false}
use Rattle.std.proofs.lemmas.List.Sums.{fold-append}
use Rattle.std.specs.List.{fold, list_all}
use Rattle.std.specs.Char.{is_ascii_digit}
use Rattle.lisp_data.specs.Numbers.{Language, is_sign, is_exponent, byte, behind, optional, digits, sign, slash, point, exponent, ratio, decimal, power, is_integer, is_bad_number, is_number, begins_number}
use Rattle.lisp_data.specs.view.Automaton.{after_digit, grown, shape_of}
use Rattle.lisp_data.specs.declared.atom.Shape.{Shape}
use Rattle.lisp_data.specs.declared.atom.Shape.TheVariants.{Start, Sign, Whole, Slash, Ratio, Bare, Pointed, Part, Exponent, ExponentSign, Power, NoNumber}

-- Languages.

abbrev never : Language
never t = false

-- digits, or nothing
abbrev more : Language
more t = list_all is_ascii_digit t

abbrev guarded : Bool → Language → Language
guarded c p t = c && p t

never-behind : (q : Language) (t : List ℕ) → behind never q t ≡ false
never-behind q [] = refl
never-behind q (b ∷ t) = ap (λ c. c || false) (never-behind q t)

guarded-behind : (c : Bool) (p q : Language) (t : List ℕ) → behind (guarded c p) q t ≡ (c && behind p q t)
guarded-behind true p q t = refl
guarded-behind false p q t = never-behind q t

-- what is left of one byte
abbrev none : Language
none [] = true
none (b ∷ t) = false

none-behind : (q : Language) (t : List ℕ) → behind none q t ≡ q t
none-behind q [] = refl
none-behind q (b ∷ t) = ap (λ c. c || q (b ∷ t)) (never-behind q t)

byte-left : (kind : ℕ → Bool) (b : ℕ) (t : List ℕ) → byte kind (b ∷ t) ≡ guarded (kind b) none t
byte-left kind b [] = on (kind b)
  where
    on : (c : Bool) → c ≡ (c && true)
    on true = refl
    on false = refl
byte-left kind b (c ∷ t) = on (kind b)
  where
    on : (c : Bool) → false ≡ (c && false)
    on true = refl
    on false = refl

byte-tail : (kind : ℕ → Bool) (q : Language) (b : ℕ) (t : List ℕ) → behind (λ x. byte kind (b ∷ x)) q t ≡ (kind b && q t)
byte-tail kind q b t =
    ap (λ (p : Language). behind p q t) (λ i x. byte-left kind b x i) ∙ guarded-behind (kind b) none q t ∙ ap (λ c. kind b && c) (none-behind q t)

byte-behind : (kind : ℕ → Bool) (q : Language) (b : ℕ) (t : List ℕ) → behind (byte kind) q (b ∷ t) ≡ (kind b && q t)
byte-behind kind q b t = or-false (behind (λ x. byte kind (b ∷ x)) q t) ∙ byte-tail kind q b t

more-behind : (q : Language) (b : ℕ) (t : List ℕ) → behind more q (b ∷ t) ≡ ((is_ascii_digit b && behind more q t) || q (b ∷ t))
more-behind q b t = ap (λ c. c || q (b ∷ t)) (guarded-behind (is_ascii_digit b) more q t)

digits-behind : (q : Language) (b : ℕ) (t : List ℕ) → behind digits q (b ∷ t) ≡ (is_ascii_digit b && behind more q t)
digits-behind q b t = or-false (behind (guarded (is_ascii_digit b) more) q t) ∙ guarded-behind (is_ascii_digit b) more q t

sign-behind : (q : Language) (b : ℕ) (t : List ℕ) → behind (optional sign) q (b ∷ t) ≡ ((is_sign b && q t) || q (b ∷ t))
sign-behind q b t = ap (λ c. c || q (b ∷ t)) (byte-tail is_sign q b t)

-- either of two, and what comes after
or-swap : (a b c d : Bool) → ((a || b) || (c || d)) ≡ ((a || c) || (b || d))
or-swap true b c d = refl
or-swap false true true d = refl
or-swap false true false d = refl
or-swap false false true d = refl
or-swap false false false d = refl

and-or : (a b c : Bool) → ((a || b) && c) ≡ ((a && c) || (b && c))
and-or true true true = refl
and-or true true false = refl
and-or true false c = sym (or-false c)
and-or false b c = refl

either-behind : (p r q : Language) (t : List ℕ) → behind (λ x. p x || r x) q t ≡ (behind p q t || behind r q t)
either-behind p r q [] = and-or (p []) (r []) (q [])
either-behind p r q (b ∷ t) =
    (λ i. either-behind (λ x. p (b ∷ x)) (λ x. r (b ∷ x)) q t i || and-or (p []) (r []) (q (b ∷ t)) i)
    ∙ or-swap (behind (λ x. p (b ∷ x)) q t) (behind (λ x. r (b ∷ x)) q t) (p [] && q (b ∷ t)) (r [] && q (b ∷ t))

and-and : (a b c : Bool) → ((a && b) && c) ≡ (a && (b && c))
and-and true b c = refl
and-and false b c = refl

row-bools : (x c y d z : Bool) → ((x || (c && y)) || ((c && d) && z)) ≡ (x || (c && (y || (d && z))))
row-bools true c y d z = refl
row-bools false true y d z = refl
row-bools false false y d z = refl

-- three in a row
behind-behind : (p q r : Language) (t : List ℕ) → behind (behind p q) r t ≡ behind p (behind q r) t
behind-behind p q r [] = and-and (p []) (q []) (r [])
behind-behind p q r (b ∷ t) =
    ap (λ c. c || ((p [] && q []) && r (b ∷ t))) (either-behind (behind (λ x. p (b ∷ x)) q) (guarded (p []) (λ x. q (b ∷ x))) r t)
    ∙ (λ i. (behind-behind (λ x. p (b ∷ x)) q r t i || guarded-behind (p []) (λ x. q (b ∷ x)) r t i) || ((p [] && q []) && r (b ∷ t)))
    ∙ row-bools (behind (λ x. p (b ∷ x)) (behind q r) t) (p []) (behind (λ x. q (b ∷ x)) r t) (q []) (r (b ∷ t))

-- The kinds of bytes in a number.

digit-sign : (b : ℕ) → is_ascii_digit b ≡ true → is_sign b ≡ false
unfolding is_sign
digit-sign b h = grind (arith, nat_tests)

digit-apart : (b k : ℕ) → k < 48 → is_ascii_digit b ≡ true → nat_eq b k ≡ false
digit-apart b k l h = grind (arith, nat_tests)

digit-letter : (b : ℕ) → is_ascii_digit b ≡ true → is_exponent b ≡ false
unfolding is_exponent
digit-letter b h = grind (arith, nat_tests)

sign-apart : (b k : ℕ) → 45 < k → is_sign b ≡ true → nat_eq b k ≡ false
unfolding is_sign
sign-apart b k l h = grind (arith, nat_tests)

sign-letter : (b : ℕ) → is_sign b ≡ true → is_exponent b ≡ false
unfolding is_sign is_exponent
sign-letter b h = grind (arith, nat_tests)

byte-is : (b k : ℕ) → nat_eq b k ≡ true → b ≡ k
byte-is b k h = grind (arith, nat_tests)

module _ (P : (digit sign point slash letter : Bool) → Type 0) where
  abbrev At : ℕ → Type 0
  At b = P (is_ascii_digit b) (is_sign b) (nat_eq b 46) (nat_eq b 47) (is_exponent b)

  at : (b : ℕ) (d s p l e : Bool) → is_ascii_digit b ≡ d → is_sign b ≡ s → nat_eq b 46 ≡ p → nat_eq b 47 ≡ l → is_exponent b ≡ e → P d s p l e → At b
  at b d s p l e hd hs hp hl he x =
      subst (λ v. P v (is_sign b) (nat_eq b 46) (nat_eq b 47) (is_exponent b)) (sym hd)
      (subst (λ v. P d v (nat_eq b 46) (nat_eq b 47) (is_exponent b)) (sym hs)
      (subst (λ v. P d s v (nat_eq b 47) (is_exponent b)) (sym hp)
      (subst (λ v. P d s p v (is_exponent b)) (sym hl)
      (subst (λ v. P d s p l v) (sym he) x))))

  at-point : P false false true false false → At 46
  unfolding is_sign is_exponent
  at-point x = x

  at-slash : P false false false true false → At 47
  unfolding is_sign is_exponent
  at-slash x = x

  by_kind : (b : ℕ) → P true false false false false → P false true false false false → P false false true false false → P false false false true false →
      P false false false false true → P false false false false false → At b
  by_kind b digit sign point slash letter other = on (is_ascii_digit b) (is_sign b) (nat_eq b 46) (nat_eq b 47) (is_exponent b) refl refl refl refl refl
    where
      on : (d s p l e : Bool) → is_ascii_digit b ≡ d → is_sign b ≡ s → nat_eq b 46 ≡ p → nat_eq b 47 ≡ l → is_exponent b ≡ e → At b
      on true s p l e hd hs hp hl he =
          at b true false false false false hd (digit-sign b hd) (digit-apart b 46 (omega arith) hd) (digit-apart b 47 (omega arith) hd) (digit-letter b hd) digit
      on false true p l e hd hs hp hl he =
          at b false true false false false hd hs (sign-apart b 46 (omega arith) hs) (sign-apart b 47 (omega arith) hs) (sign-letter b hs) sign
      on false false true l e hd hs hp hl he = subst At (sym (byte-is b 46 hp)) (at-point point)
      on false false false true e hd hs hp hl he = subst At (sym (byte-is b 47 hl)) (at-slash slash)
      on false false false false true hd hs hp hl he = at b false false false false true hd hs hp hl he letter
      on false false false false false hd hs hp hl he = at b false false false false false hd hs hp hl he other

-- What stands after a shape where the whole is a number.

abbrev body : Language
body t = ratio t || decimal t || power t

abbrev slashed : Language
slashed = behind slash digits

abbrev pointed : Language
pointed = behind point (optional exponent)

abbrev parted : Language
parted = behind point (behind digits (optional exponent))

-- a body, form by form
body-is : (t : List ℕ) → body t ≡ ((behind digits slashed t || ((behind digits pointed t || behind digits parted t) || parted t)) || behind digits exponent t)
body-is t =
    let front : Language = λ x. behind digits point x || behind digits (behind point digits) x in
    let first : behind (behind digits point) (optional exponent) t ≡ behind digits pointed t = behind-behind digits point (optional exponent) t in
    let inner : behind (behind point digits) (optional exponent) ≡ parted = (λ i x. behind-behind point digits (optional exponent) x i) in
    let second : behind (behind digits (behind point digits)) (optional exponent) t ≡ behind digits parted t =
    (behind-behind digits (behind point digits) (optional exponent) t ∙ ap (λ (q : Language). behind digits q t) inner) in
    let third : behind (behind point digits) (optional exponent) t ≡ parted t = behind-behind point digits (optional exponent) t in
    let decimals : decimal t ≡ ((behind digits pointed t || behind digits parted t) || parted t) =
    (either-behind front (behind point digits) (optional exponent) t
    ∙ ap (λ c. c || behind (behind point digits) (optional exponent) t) (either-behind (behind digits point) (behind digits (behind point digits)) (optional exponent) t)
    ∙ λ i. (first i || second i) || third i) in
    ap (λ c. (ratio t || c) || power t) decimals

abbrev ints : Shape → Language
ints Start = is_integer
ints Sign = digits
ints Whole = more
ints _ = never

abbrev bads : Shape → Language
bads Start = is_bad_number
bads Sign = body
bads Whole = λ t. (behind more slashed t || (behind more pointed t || behind more parted t)) || behind more exponent t
bads Slash = digits
bads Ratio = more
bads Bare = behind digits (optional exponent)
bads Pointed = λ t. optional exponent t || behind digits (optional exponent) t
bads Part = behind more (optional exponent)
bads Exponent = is_integer
bads ExponentSign = digits
bads Power = more
bads NoNumber = never

-- One byte more.

abbrev start_to : (digit sign point : Bool) → Shape
start_to d s p = cond d Whole (cond s Sign (cond p Bare NoNumber))

abbrev sign_to : (digit point : Bool) → Shape
sign_to d p = cond d Whole (cond p Bare NoNumber)

abbrev whole_to : (digit point slash letter : Bool) → Shape
whole_to d p l e = cond d Whole (cond l Slash (cond p Pointed (cond e Exponent NoNumber)))

int-step : (shape : Shape) (b : ℕ) (t : List ℕ) → ints shape (b ∷ t) ≡ ints (grown shape b) t
int-step Start b t =
    sign-behind digits b t
    ∙ by_kind (λ d s p l e. ((s && digits t) || (d && more t)) ≡ ints (start_to d s p) t) b refl (or-false (digits t)) refl refl refl refl
int-step Sign b t = by_kind (λ d s p l e. (d && more t) ≡ ints (sign_to d p) t) b refl refl refl refl refl refl
int-step Whole b t = by_kind (λ d s p l e. (d && more t) ≡ ints (whole_to d p l e) t) b refl refl refl refl refl refl
int-step Slash b t = by_kind (λ d s p l e. false ≡ ints (cond d Ratio NoNumber) t) b refl refl refl refl refl refl
int-step Ratio b t = by_kind (λ d s p l e. false ≡ ints (cond d Ratio NoNumber) t) b refl refl refl refl refl refl
int-step Bare b t = by_kind (λ d s p l e. false ≡ ints (cond d Part NoNumber) t) b refl refl refl refl refl refl
int-step Pointed b t = by_kind (λ d s p l e. false ≡ ints (cond d Part (cond e Exponent NoNumber)) t) b refl refl refl refl refl refl
int-step Part b t = by_kind (λ d s p l e. false ≡ ints (cond d Part (cond e Exponent NoNumber)) t) b refl refl refl refl refl refl
int-step Exponent b t = by_kind (λ d s p l e. false ≡ ints (cond d Power (cond s ExponentSign NoNumber)) t) b refl refl refl refl refl refl
int-step ExponentSign b t = by_kind (λ d s p l e. false ≡ ints (cond d Power NoNumber) t) b refl refl refl refl refl refl
int-step Power b t = by_kind (λ d s p l e. false ≡ ints (cond d Power NoNumber) t) b refl refl refl refl refl refl
int-step NoNumber b t = by_kind (λ d s p l e. false ≡ ints (cond d NoNumber NoNumber) t) b refl refl refl refl refl refl

-- a body with its first byte
abbrev body_by : (digit point : Bool) → List ℕ → Bool
body_by d p t =
    ((d && behind more slashed t) || (((d && behind more pointed t) || (d && behind more parted t)) || (p && behind digits (optional exponent) t)))
    || (d && behind more exponent t)

body-byte : (b : ℕ) (t : List ℕ) → body (b ∷ t) ≡ body_by (is_ascii_digit b) (nat_eq b 46) t
body-byte b t =
    body-is (b ∷ t)
    ∙ λ i. (digits-behind slashed b t i
    || ((digits-behind pointed b t i || digits-behind parted b t i) || byte-behind (λ k. nat_eq k 46) (behind digits (optional exponent)) b t i))
    || digits-behind exponent b t i

letter-byte : (b : ℕ) (t : List ℕ) → exponent (b ∷ t) ≡ (is_exponent b && is_integer t)
letter-byte b t = byte-behind is_exponent is_integer b t

bad-step : (shape : Shape) (b : ℕ) (t : List ℕ) → bads shape (b ∷ t) ≡ bads (grown shape b) t
bad-step Start b t =
    sign-behind body b t ∙ ap (λ c. (is_sign b && body t) || c) (body-byte b t)
    ∙ by_kind (λ d s p l e. ((s && body t) || body_by d p t) ≡ bads (start_to d s p) t) b
    (λ i. (behind more slashed t || or-false (behind more pointed t || behind more parted t) i) || behind more exponent t)
    (or-false (body t)) (or-false (behind digits (optional exponent) t)) refl refl refl
bad-step Sign b t =
    body-byte b t
    ∙ by_kind (λ d s p l e. body_by d p t ≡ bads (sign_to d p) t) b
    (λ i. (behind more slashed t || or-false (behind more pointed t || behind more parted t) i) || behind more exponent t)
    refl (or-false (behind digits (optional exponent) t)) refl refl refl
bad-step Whole b t =
    (λ i. (more-behind slashed b t i || (more-behind pointed b t i || more-behind parted b t i)) || more-behind exponent b t i)
    ∙ (λ i. (((is_ascii_digit b && behind more slashed t) || byte-behind (λ k. nat_eq k 47) digits b t i)
    || (((is_ascii_digit b && behind more pointed t) || byte-behind (λ k. nat_eq k 46) (optional exponent) b t i)
    || ((is_ascii_digit b && behind more parted t) || byte-behind (λ k. nat_eq k 46) (behind digits (optional exponent)) b t i)))
    || ((is_ascii_digit b && behind more exponent t) || letter-byte b t i))
    ∙ by_kind (λ d s p l e. ((((d && behind more slashed t) || (l && digits t))
    || (((d && behind more pointed t) || (p && optional exponent t)) || ((d && behind more parted t) || (p && behind digits (optional exponent) t))))
    || ((d && behind more exponent t) || (e && is_integer t))) ≡ bads (whole_to d p l e) t) b
    (λ i. (or-false (behind more slashed t) i || (or-false (behind more pointed t) i || or-false (behind more parted t) i)) || or-false (behind more exponent t) i)
    refl (or-false (optional exponent t || behind digits (optional exponent) t)) (or-false (digits t || false) ∙ or-false (digits t)) refl refl
bad-step Slash b t = by_kind (λ d s p l e. (d && more t) ≡ bads (cond d Ratio NoNumber) t) b refl refl refl refl refl refl
bad-step Ratio b t = by_kind (λ d s p l e. (d && more t) ≡ bads (cond d Ratio NoNumber) t) b refl refl refl refl refl refl
bad-step Bare b t =
    digits-behind (optional exponent) b t
    ∙ by_kind (λ d s p l e. (d && behind more (optional exponent) t) ≡ bads (cond d Part NoNumber) t) b refl refl refl refl refl refl
bad-step Pointed b t =
    (λ i. letter-byte b t i || digits-behind (optional exponent) b t i)
    ∙ by_kind (λ d s p l e. ((e && is_integer t) || (d && behind more (optional exponent) t)) ≡ bads (cond d Part (cond e Exponent NoNumber)) t) b
    refl refl refl refl (or-false (is_integer t)) refl
bad-step Part b t =
    more-behind (optional exponent) b t ∙ ap (λ c. (is_ascii_digit b && behind more (optional exponent) t) || c) (letter-byte b t)
    ∙ by_kind (λ d s p l e. ((d && behind more (optional exponent) t) || (e && is_integer t)) ≡ bads (cond d Part (cond e Exponent NoNumber)) t) b
    (or-false (behind more (optional exponent) t)) refl refl refl refl refl
bad-step Exponent b t =
    sign-behind digits b t
    ∙ by_kind (λ d s p l e. ((s && digits t) || (d && more t)) ≡ bads (cond d Power (cond s ExponentSign NoNumber)) t) b
    refl (or-false (digits t)) refl refl refl refl
bad-step ExponentSign b t = by_kind (λ d s p l e. (d && more t) ≡ bads (cond d Power NoNumber) t) b refl refl refl refl refl refl
bad-step Power b t = by_kind (λ d s p l e. (d && more t) ≡ bads (cond d Power NoNumber) t) b refl refl refl refl refl refl
bad-step NoNumber b t = by_kind (λ d s p l e. false ≡ bads (cond d NoNumber NoNumber) t) b refl refl refl refl refl refl

-- Whole texts.

-- an integer's shape
abbrev pub is_whole : Shape → Bool
is_whole Whole = true
is_whole _ = false

-- a bad number's
abbrev pub is_bad : Shape → Bool
is_bad Ratio = true
is_bad Pointed = true
is_bad Part = true
is_bad Power = true
is_bad _ = false

-- one that can go on to a number's
abbrev pub is_front : Shape → Bool
is_front s = is_whole (after_digit s) || is_bad (after_digit s)

int-nil : (s : Shape) → ints s [] ≡ is_whole s
int-nil Start = refl
int-nil Sign = refl
int-nil Whole = refl
int-nil Slash = refl
int-nil Ratio = refl
int-nil Bare = refl
int-nil Pointed = refl
int-nil Part = refl
int-nil Exponent = refl
int-nil ExponentSign = refl
int-nil Power = refl
int-nil NoNumber = refl

bad-nil : (s : Shape) → bads s [] ≡ is_bad s
bad-nil Start = refl
bad-nil Sign = refl
bad-nil Whole = refl
bad-nil Slash = refl
bad-nil Ratio = refl
bad-nil Bare = refl
bad-nil Pointed = refl
bad-nil Part = refl
bad-nil Exponent = refl
bad-nil ExponentSign = refl
bad-nil Power = refl
bad-nil NoNumber = refl

int-fold : (s : Shape) (t : List ℕ) → ints s t ≡ is_whole (fold grown s t)
int-fold s [] = int-nil s
int-fold s (b ∷ t) = int-step s b t ∙ int-fold (grown s b) t

bad-fold : (s : Shape) (t : List ℕ) → bads s t ≡ is_bad (fold grown s t)
bad-fold s [] = bad-nil s
bad-fold s (b ∷ t) = bad-step s b t ∙ bad-fold (grown s b) t

pub integer-shape : (r : List ℕ) → is_integer r ≡ is_whole (shape_of r)
integer-shape r = int-fold Start r

pub bad-shape : (r : List ℕ) → is_bad_number r ≡ is_bad (shape_of r)
bad-shape r = bad-fold Start r

pub front-shape : (r : List ℕ) → begins_number r ≡ is_front (shape_of r)
front-shape r =
    let grows : shape_of (r ++ 48 ∷ []) ≡ after_digit (shape_of r) = fold-append grown Start r (48 ∷ []) in
    (λ i. integer-shape (r ++ 48 ∷ []) i || bad-shape (r ++ 48 ∷ []) i) ∙ ap (λ s. is_whole s || is_bad s) grows

-- A text that goes on to a number begins one.

late : (s : Shape) (t : List ℕ) → is_front s ≡ false → fold grown s t ≡ NoNumber
late NoNumber [] h = refl
late NoNumber (b ∷ t) h = on (is_ascii_digit b) (late NoNumber t refl)
  where
    on : (c : Bool) → fold grown NoNumber t ≡ NoNumber → fold grown (cond c NoNumber NoNumber) t ≡ NoNumber
    on true k = k
    on false k = k
late Start t h = cc
late Sign t h = cc
late Whole t h = cc
late Slash t h = cc
late Ratio t h = cc
late Bare t h = cc
late Pointed t h = cc
late Part t h = cc
late Exponent t h = cc
late ExponentSign t h = cc
late Power t h = cc

pub goes-on : (r t : List ℕ) → is_number (r ++ t) ≡ true → begins_number r ≡ true
goes-on r t h = front-shape r ∙ on (is_front (shape_of r)) refl
  where
    on : (c : Bool) → is_front (shape_of r) ≡ c → is_front (shape_of r) ≡ true
    on true e = e
    on false e =
        let end : shape_of (r ++ t) ≡ NoNumber = fold-append grown Start r t ∙ late (shape_of r) t e in
        let none : is_number (r ++ t) ≡ false = (λ i. integer-shape (r ++ t) i || bad-shape (r ++ t) i) ∙ ap (λ s. is_whole s || is_bad s) end in
        absurd (let k : true ≡ false = sym h ∙ none in cc)

pub ruleset numbers = (goes-on)
