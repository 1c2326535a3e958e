-- How the code goes over an atom: how far it has the form of a number, byte by byte.
use Rattle.std.specs.Prelude.{ℕ, Bool, true, false, nat_eq, if◌then◌else◌, List, length}
use Rattle.std.specs.List.{fold}
use Rattle.std.specs.Char.{is_ascii_digit}
use Rattle.std.specs.Str.Parse.{signed_digits_value}
use Rattle.lisp_data.specs.Numbers.{is_sign, is_exponent}
use Rattle.lisp_data.specs.Atoms.{Leaf, Wrong, integer, word}
use Rattle.lisp_data.specs.declared.code.Code.TheVariants.{BadNumber, BookTooLong}
use Rattle.lisp_data.specs.declared.atom.Shape.{Shape}
use Rattle.lisp_data.specs.declared.atom.Shape.TheVariants.{Start, Sign, Whole, Slash, Ratio, Bare, Pointed, Part, Exponent, ExponentSign, Power, NoNumber}

abbrev pub after_digit : Shape → Shape
after_digit Start = Whole
after_digit Sign = Whole
after_digit Whole = Whole
after_digit Slash = Ratio
after_digit Ratio = Ratio
after_digit Bare = Part
after_digit Pointed = Part
after_digit Part = Part
after_digit Exponent = Power
after_digit ExponentSign = Power
after_digit Power = Power
after_digit NoNumber = NoNumber

abbrev pub after_other : Shape → ℕ → Shape
after_other Start b = if is_sign b then Sign else if nat_eq b 46 then Bare else NoNumber
after_other Sign b = if nat_eq b 46 then Bare else NoNumber
after_other Whole b = if nat_eq b 47 then Slash else if nat_eq b 46 then Pointed else if is_exponent b then Exponent else NoNumber
after_other Pointed b = if is_exponent b then Exponent else NoNumber
after_other Part b = if is_exponent b then Exponent else NoNumber
after_other Exponent b = if is_sign b then ExponentSign else NoNumber
after_other _ b = NoNumber

-- the shape with one more byte
abbrev pub grown : Shape → ℕ → Shape
grown s b = if is_ascii_digit b then after_digit s else after_other s b

abbrev pub shape_of : List ℕ → Shape
shape_of r = fold grown Start r

-- an atom of this shape
abbrev pub shaped : Bool → List ℕ → Shape → Leaf
shaped cut r NoNumber = word cut r
shaped true r _ = Wrong BookTooLong (length r)
shaped false r Whole = integer (signed_digits_value 10 r)
shaped false r Ratio = Wrong BadNumber 0
shaped false r Pointed = Wrong BadNumber 0
shaped false r Part = Wrong BadNumber 0
shaped false r Power = Wrong BadNumber 0
shaped false r _ = word false r
