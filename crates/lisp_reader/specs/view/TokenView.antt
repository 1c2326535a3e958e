-- What the code finds at the start of a text.
use Rattle.std.specs.Prelude.{◌≡◌, ℕ, ◌<◌}
use Rattle.lisp_reader.specs.Spans as s
use Rattle.lisp_reader.specs.Spans.{Front}
use Rattle.lisp_reader.specs.declared.token.Token.{Token}
use Rattle.lisp_reader.specs.declared.token.Token.TheVariants.{Nothing, EndlessGap, Open, Close, Quote, Text, EndlessText, Atom, Stray}
use Rattle.lisp_reader.specs.declared.token.Piece.{Piece}
use Rattle.lisp_reader.specs.declared.token.Piece.TheVariants as pieces

abbrev pub seen : Token → Front
seen Nothing = s.Nothing
seen EndlessGap = s.EndlessGap
seen Open = s.Open
seen Close = s.Close
seen Quote = s.Quote
seen (Text last) = s.Text last
seen EndlessText = s.EndlessText
seen (Atom last) = s.Atom last
seen Stray = s.Stray

abbrev pub seen_piece : Piece → Front
seen_piece (pieces.Gap last) = s.Gap last
seen_piece (pieces.Token token) = seen token

-- it lies within n bytes
abbrev pub IsWithin : ℕ → Front → Type 0
IsWithin n s.Nothing = n ≡ 0
IsWithin n (s.Gap last) = last < n
IsWithin n (s.Text last) = (0 < last) × (last < n)
IsWithin n (s.Atom last) = last < n
IsWithin n _ = 0 < n
