-- What a text begins with.
use Rattle.std.specs.Prelude.{ℕ, ◌+◌, ◌-◌, zero, suc, Bool, true, false, ◌&&◌, ◌||◌, nat_eq, if◌then◌else◌, Option, Some, None, List, [], ◌∷◌, drop}
use Rattle.std.specs.List.{prefix_len, position_or_len}
use Rattle.lisp_data.specs.Atoms.{in_atom}

-- 9, 10, 12, 13, 32
unfoldable pub is_blank : ℕ → Bool
is_blank b = nat_eq b 9 || nat_eq b 10 || nat_eq b 12 || nat_eq b 13 || nat_eq b 32

-- how many bytes stand before the line's end
abbrev pub line : List ℕ → ℕ
line text = position_or_len (λ b. nat_eq b 10) text

-- how many bytes of an atom come first
abbrev pub run : List ℕ → ℕ
run text = prefix_len in_atom text

abbrev pub later : ℕ → Option ℕ → Option ℕ
later n None = None
later n (Some k) = Some (k + n)

-- two bytes that begin a block comment, and two that end it
unfoldable pub opens : ℕ → ℕ → Bool
opens b c = nat_eq b 35 && nat_eq c 124

unfoldable pub ends : ℕ → ℕ → Bool
ends b c = nat_eq b 124 && nat_eq c 35

-- the place of the last byte of a block comment, counted from the byte after its beginning; `inner` more are open in it
unfoldable pub block : ℕ → List ℕ → Option ℕ
block inner [] = None
block inner (b ∷ []) = None
block inner (b ∷ c ∷ t) =
    if opens b c then later 2 (block (inner + 1) t)
    else if ends b c then (if nat_eq inner 0 then Some 1 else later 2 (block (inner - 1) t))
    else later 1 (block inner (c ∷ t))

-- the place of the quote that ends a string, counted from the byte after the one that begins it
unfoldable pub string : List ℕ → Option ℕ
string [] = None
string (b ∷ []) = if nat_eq b 34 then Some 0 else None
string (b ∷ c ∷ t) = if nat_eq b 34 then Some 0 else if nat_eq b 92 then later 2 (string t) else later 1 (string (c ∷ t))

-- a backslash, and the byte that it makes plain
unfoldable pub escapes : List ℕ → Bool
escapes [] = false
escapes (b ∷ []) = false
escapes (b ∷ c ∷ t) = nat_eq b 92

-- what a string holds, by the bytes between its quotes: no backslash that makes a byte plain
unfoldable pub unescaped : List ℕ → List ℕ
unescaped [] = []
unescaped (b ∷ []) = b ∷ []
unescaped (b ∷ c ∷ t) = if nat_eq b 92 then c ∷ unescaped t else b ∷ unescaped (c ∷ t)

-- What comes first. A number is the place of its last byte, counted from its first.
pub data Front : Type 0 where
  Nothing : Front
  Gap : ℕ → Front
  EndlessGap : Front
  Open : Front
  Close : Front
  Quote : Front
  Text : ℕ → Front
  EndlessText : Front
  Atom : ℕ → Front
  Stray : Front

abbrev pub comment : Option ℕ → Front
comment None = EndlessGap
comment (Some n) = Gap (n + 2)

abbrev pub text : Option ℕ → Front
text None = EndlessText
text (Some n) = Text (n + 1)

-- the byte b, with t after it, where no block comment begins
abbrev pub plain : ℕ → List ℕ → Front
plain b t =
    if is_blank b then Gap 0
    else if nat_eq b 59 then Gap (line t)
    else if nat_eq b 40 then Open
    else if nat_eq b 41 then Close
    else if nat_eq b 39 then Quote
    else if nat_eq b 34 then text (string t)
    else if in_atom b then Atom (run t)
    else Stray

-- the text begins with a block comment
unfoldable pub opens_block : List ℕ → Bool
opens_block [] = false
opens_block (b ∷ []) = false
opens_block (b ∷ c ∷ t) = opens b c

unfoldable pub front : List ℕ → Front
front [] = Nothing
front (b ∷ t) = if opens_block (b ∷ t) then comment (block 0 (drop 1 t)) else plain b t

-- a token with which a form begins
abbrev pub begins : Front → Bool
begins Open = true
begins Quote = true
begins (Text n) = true
begins EndlessText = true
begins (Atom n) = true
begins _ = false

-- a number sign alone
abbrev pub is_sharp : List ℕ → Bool
is_sharp [] = false
is_sharp (b ∷ []) = nat_eq b 35
is_sharp (b ∷ c ∷ t) = false

abbrev pub is_gap : Front → Bool
is_gap (Gap n) = true
is_gap _ = false

-- how many bytes of gaps come first, from the byte `skip` on
abbrev pub gap_after : Front → (ℕ → ℕ) → ℕ
gap_after (Gap n) rest = rest n + 1
gap_after _ rest = 0

unfoldable pub gaps_from : ℕ → List ℕ → ℕ
gaps_from skip [] = 0
gaps_from (suc skip) (b ∷ t) = gaps_from skip t + 1
gaps_from zero (b ∷ t) = gap_after (front (b ∷ t)) (λ n. gaps_from n t)

abbrev pub gaps : List ℕ → ℕ
gaps text = gaps_from 0 text

-- the text after its gaps
abbrev pub behind : List ℕ → List ℕ
behind text = drop (gaps text) text
