-- The number forms of atoms, as languages: a language says of a text whether it belongs to it.
use Rattle.std.specs.Prelude.{ℕ, Bool, true, false, ◌&&◌, ◌||◌, nat_eq, List, [], ◌∷◌, ◌++◌}
use Rattle.std.specs.List.{list_all}
use Rattle.std.specs.Char.{is_ascii_digit}

abbrev pub Language : Type 0
Language = List ℕ → Bool

unfoldable pub is_sign : ℕ → Bool
is_sign b = nat_eq b 43 || nat_eq b 45

-- e s f d l, in either case
unfoldable pub is_exponent : ℕ → Bool
is_exponent b = nat_eq b 101 || nat_eq b 115 || nat_eq b 102 || nat_eq b 100 || nat_eq b 108 || nat_eq b 69 || nat_eq b 83 || nat_eq b 70 || nat_eq b 68 || nat_eq b 76

-- one byte of a kind
abbrev pub byte : (ℕ → Bool) → Language
byte kind [] = false
byte kind (b ∷ []) = kind b
byte kind (b ∷ c ∷ t) = false

-- a text of p and, after it, a text of q
abbrev pub behind : Language → Language → Language
behind p q [] = p [] && q []
behind p q (b ∷ t) = behind (λ x. p (b ∷ x)) q t || (p [] && q (b ∷ t))

-- a text of p, or nothing
abbrev pub optional : Language → Language
optional p [] = true
optional p (b ∷ t) = p (b ∷ t)

-- one digit or more
abbrev pub digits : Language
digits [] = false
digits (b ∷ t) = list_all is_ascii_digit (b ∷ t)

abbrev pub sign : Language
sign = byte is_sign

abbrev pub slash : Language
slash = byte (λ b. nat_eq b 47)

abbrev pub point : Language
point = byte (λ b. nat_eq b 46)

-- a letter, a sign or none, and digits
abbrev pub exponent : Language
exponent = behind (byte is_exponent) (behind (optional sign) digits)

-- digits, a slash, digits
abbrev pub ratio : Language
ratio = behind digits (behind slash digits)

-- `digits.`, `digits.digits` or `.digits`, and an exponent or none
abbrev pub decimal : Language
decimal =
    behind (λ t. behind digits point t || behind digits (behind point digits) t || behind point digits t) (optional exponent)

-- digits and an exponent
abbrev pub power : Language
power = behind digits exponent

-- a sign or none, and digits
abbrev pub is_integer : Language
is_integer = behind (optional sign) digits

-- a sign or none, and one of three
abbrev pub is_bad_number : Language
is_bad_number = behind (optional sign) (λ t. ratio t || decimal t || power t)

abbrev pub is_number : Language
is_number t = is_integer t || is_bad_number t

-- A text that is a number or can go on as one: then it is one with a zero after it.
abbrev pub begins_number : Language
begins_number t = is_number (t ++ 48 ∷ [])
