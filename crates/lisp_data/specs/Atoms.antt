-- The atoms of a book: which bytes they have, and what they are.
use Rattle.std.specs.Prelude.{ℕ, ◌+◌, ◌^◌, ℤ, pos, negsuc, Bool, false, ◌&&◌, ◌||◌, not, nat_eq, nat_lt, if◌then◌else◌, Option, Some, None, List, [], ◌∷◌, length, map, take, drop}
use Rattle.std.specs.List.{list_all, position}
use Rattle.std.specs.Char.{to_ascii_uppercase}
use Rattle.std.specs.Str.Parse.{signed_digits_value}
unfoldable pub use Rattle.lisp_data.specs.Numbers.{is_sign, is_exponent}
use Rattle.lisp_data.specs.Numbers.{is_integer, is_bad_number, begins_number}
use Rattle.lisp_data.specs.declared.limits.TheConstants.{MAX_SYMBOL}
use Rattle.lisp_data.specs.declared.code.Code.{Code}
use Rattle.lisp_data.specs.declared.code.Code.TheVariants.{BadByte, BadDot, BadNumber, IntegerTooWide, BookTooLong, SymbolTooLong}

-- ( ) " ' ; , | \ and the backquote
unfoldable pub is_delimiter : ℕ → Bool
is_delimiter b = nat_eq b 40 || nat_eq b 41 || nat_eq b 34 || nat_eq b 39 || nat_eq b 59 || nat_eq b 44 || nat_eq b 124 || nat_eq b 92 || nat_eq b 96

-- from 33 to 126, and none of these
unfoldable pub in_atom : ℕ → Bool
in_atom b = nat_lt 32 b && nat_lt b 127 && not (is_delimiter b)

-- an atom that is an integer, a symbol of this text, the point, or a fault with its code and its place in the atom
pub data Leaf : Type 0 where
  Integer : ℤ → Leaf
  Named : List ℕ → Leaf
  Point : Leaf
  Wrong : Code → ℕ → Leaf

-- from -2^127 to 2^127 - 1
abbrev pub is_narrow : ℤ → Bool
is_narrow (pos n) = nat_lt n (2 ^ 127)
is_narrow (negsuc n) = nat_lt n (2 ^ 127)

abbrev pub integer : ℤ → Leaf
integer z = if is_narrow z then Integer z else Wrong IntegerTooWide 0

-- What an atom is that is no number and can't become one, by the place of a colon past its first byte, counted from the second: the first byte
-- past the longest symbol is a fault, unless a colon stands there or before it. `cut`: the atom reaches the end of the bytes, and the book goes
-- on past them.
abbrev pub word_by : Bool → List ℕ → Option ℕ → Leaf
word_by cut r (Some i) = Wrong BadByte (i + 1)
word_by cut r None = if nat_lt MAX_SYMBOL (length r) then Wrong SymbolTooLong MAX_SYMBOL else if cut then Wrong BookTooLong (length r) else Named (map to_ascii_uppercase r)

abbrev pub word : Bool → List ℕ → Leaf
word cut r = word_by cut r (position (λ b. nat_eq b 58) (drop 1 (take (MAX_SYMBOL + 1) r)))

-- begins with a number sign, or is the colon alone
abbrev pub is_odd : List ℕ → Bool
is_odd [] = false
is_odd (b ∷ []) = nat_eq b 35 || nat_eq b 58
is_odd (b ∷ c ∷ t) = nat_eq b 35

-- an odd atom: a number sign alone, after which the book goes on, may yet begin a comment
abbrev pub odd : Bool → List ℕ → Leaf
odd cut r = if cut && nat_eq (length r) 1 then Wrong BookTooLong 1 else Wrong BadByte 0

-- an atom of points only
abbrev pub points : Bool → List ℕ → Leaf
points cut r = if cut then Wrong BookTooLong (length r) else if nat_eq (length r) 1 then Point else Wrong BadDot 0

-- what an atom is
unfoldable pub leaf : Bool → List ℕ → Leaf
leaf cut r =
    if is_odd r then odd cut r
    else if list_all (λ b. nat_eq b 46) r then points cut r
    else if cut && begins_number r then Wrong BookTooLong (length r)
    else if is_integer r then integer (signed_digits_value 10 r)
    else if is_bad_number r then Wrong BadNumber 0
    else word cut r
