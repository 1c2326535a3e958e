-- The grammar of books: the forms of a text, and its end or its first fault.
use Rattle.std.specs.Prelude.{ℕ, zero, suc, ◌+◌, ◌-◌, Bool, true, false, ◌&&◌, not, nat_eq, nat_lt, if◌then◌else◌, Option, Some, None, List, [], ◌∷◌, length, take, drop, codes}
use Rattle.lisp_data.specs.Datum.{Datum, IntForm, SymForm, TextForm, PairForm, nil_form}
use Rattle.lisp_data.specs.Atoms.{Leaf, Integer, Named, Point, Wrong, leaf, is_odd}
use Rattle.lisp_reader.specs.Spans.{Front, Nothing, Gap, EndlessGap, Open, Close, Quote, Text, EndlessText, Atom, Stray, unescaped, front, begins, is_sharp, gaps, behind}
use Rattle.lisp_data.specs.declared.code.Code.{Code}
use Rattle.lisp_data.specs.declared.code.Code.TheVariants.{BadByte, UnclosedList, StrayClose, BadDot, TooDeep, BookTooLong, UnclosedText}
use Rattle.lisp_reader.specs.declared.limits.TheConstants.{MAX_BOOK, MAX_FORMS, MAX_NESTING}

-- What a text begins with: a form and the place of its last byte, or the first fault and its place. Places count from the text's first byte.
pub data Read : Type 0 where
  Got : Datum → ℕ → Read
  Bad : Code → ℕ → Read

-- the same in a text that has n bytes before it
abbrev pub shift : ℕ → Read → Read
shift n (Got f m) = Got f (n + m)
shift n (Bad c m) = Bad c (n + m)

-- a form made of the form that was read
abbrev pub mapped : (Datum → Datum) → Read → Read
mapped h (Got f n) = Got (h f) n
mapped h (Bad c n) = Bad c n

-- a form that was read, and what comes after it; a fault stays
abbrev pub and_then : Read → (Datum → ℕ → Read) → Read
and_then (Got f n) rest = rest f n
and_then (Bad c n) rest = Bad c n

abbrev pub quote_form : Datum → Datum
quote_form f = PairForm (SymForm (codes "QUOTE")) (PairForm f nil_form)

-- what the rest of a list begins with
pub data Kind : Type 0 where
  Closes : Kind
  Points : Kind
  Item : Kind

abbrev pub by_kind : Kind → (close point item : Read) → Read
by_kind Closes close point item = close
by_kind Points close point item = point
by_kind Item close point item = item

-- `more`: the book goes on past the bytes
module _ (more : Bool) where
  -- the code where the bytes end
  abbrev pub at_end : Code → Code
  at_end code = if more then BookTooLong else code

  -- the code where they end in a string or a block comment. `inside`: it stands in a list or after a quote, which is unclosed as well
  abbrev pub in_text : Bool → Code
  in_text inside = at_end (if inside then UnclosedList else UnclosedText)

  -- the atom at the start of the text, whose last byte is the n-th; one that runs to the end of the bytes may go on where the book does
  abbrev pub leaf_at : List ℕ → ℕ → Leaf
  leaf_at text n = leaf (more && nat_eq (n + 1) (length text)) (take (n + 1) text)

  abbrev pub leaf_read : Leaf → ℕ → Read
  leaf_read (Integer z) n = Got (IntForm z) n
  leaf_read (Named s) n = Got (SymForm s) n
  leaf_read Point n = Bad BadDot 0
  leaf_read (Wrong c m) n = Bad c m

  -- what is wrong with an atom where no form may stand
  abbrev pub leaf_fault : Leaf → Read
  leaf_fault (Wrong c m) = Bad c m
  leaf_fault _ = Bad BadDot 0

  -- one form with no gaps before it; `list` and `mark` read on from a `(` and a `'`
  abbrev pub one_by : Bool → (list mark : List ℕ → Read) → List ℕ → Front → Read
  one_by inside list mark text Nothing = Bad (at_end UnclosedList) 0
  one_by inside list mark text (Gap n) = Bad (at_end UnclosedList) 0
  one_by inside list mark text EndlessGap = Bad (in_text inside) (length text)
  one_by inside list mark text Open = list text
  one_by inside list mark text Close = Bad StrayClose 0
  one_by inside list mark text Quote = mark text
  one_by inside list mark text (Text n) = Got (TextForm (unescaped (take (n - 1) (drop 1 text)))) n
  one_by inside list mark text EndlessText = Bad (in_text inside) (length text)
  one_by inside list mark text (Atom n) = leaf_read (leaf_at text n) n
  one_by inside list mark text Stray = Bad BadByte 0

  abbrev pub one : Bool → (list mark : List ℕ → Read) → List ℕ → Read
  one inside list mark text = shift (gaps text) (one_by inside list mark (behind text) (front (behind text)))

  -- after the form that follows a point: gaps, and the `)`; the first byte of a second form is a fault, unless it is one by itself
  abbrev pub closing_by : Datum → List ℕ → Front → Read
  closing_by f text Nothing = Bad (at_end UnclosedList) 0
  closing_by f text EndlessGap = Bad (in_text true) (length text)
  closing_by f text Close = Got f 0
  closing_by f text Stray = Bad BadByte 0
  closing_by f text (Atom n) = if is_odd (take (n + 1) text) then leaf_fault (leaf_at text n) else Bad BadDot 0
  closing_by f text _ = Bad BadDot 0

  abbrev pub closing : Datum → List ℕ → Read
  closing f text = shift (gaps text) (closing_by f (behind text) (front (behind text)))

  abbrev pub leaf_kind : Leaf → Kind
  leaf_kind Point = Points
  leaf_kind _ = Item

  -- a single point that may stand where an item is there already
  abbrev pub kind_of : Bool → List ℕ → Front → Kind
  kind_of some text Close = Closes
  kind_of some text (Atom n) = if some then leaf_kind (leaf_at text n) else Item
  kind_of some text _ = Item

  abbrev pub kind : Bool → List ℕ → Kind
  kind some text = kind_of some (behind text) (front (behind text))

  -- after the point: a form, and the end of the list
  abbrev pub last_by : (form : List ℕ → Read) → List ℕ → Kind → Read
  last_by form text Closes = Bad BadDot (gaps text)
  last_by form text _ = and_then (form text) (λ f n. shift (n + 1) (closing f (drop (n + 1) text)))

  abbrev pub last : (form : List ℕ → Read) → List ℕ → Read
  last form text = last_by form text (kind false text)

  -- the rest of a list from its byte `skip` on, up to the `)`, where `form` reads an item and `some` says that one is there
  unfoldable pub items : (form : List ℕ → Read) → Bool → ℕ → List ℕ → Read
  items form some skip [] = Bad (at_end UnclosedList) skip
  items form some (suc skip) (b ∷ t) = shift 1 (items form some skip t)
  items form some zero (b ∷ t) = by_kind (kind some (b ∷ t))
      (Got nil_form (gaps (b ∷ t)))
      (shift (gaps (b ∷ t) + 1) (last form (drop (gaps (b ∷ t) + 1) (b ∷ t))))
      (and_then (form (b ∷ t)) (λ f n. mapped (PairForm f) (shift 1 (items form true n t))))

  -- one form, where so many more lists and quotes may be unclosed
  unfoldable pub form : Bool → ℕ → List ℕ → Read
  form inside zero text = one inside (λ t. Bad TooDeep 0) (λ t. Bad TooDeep 0) text
  form inside (suc depth) text =
      one inside (λ t. shift 1 (items (form true depth) false 0 (drop 1 t))) (λ t. shift 1 (mapped quote_form (form true depth (drop 1 t)))) text

  -- a form begins with the text's first byte; a number sign alone, after which the book goes on, may yet begin a comment
  unfoldable pub begins_form : List ℕ → Bool
  begins_form text = begins (front text) && not (more && is_sharp text)

  -- one form of a book, of which no more may come where `none` says so
  abbrev pub next_form : Bool → List ℕ → Read
  next_form none text = if begins_form (behind text) && none then Bad BookTooLong (gaps text) else form false MAX_NESTING text

  abbrev pub book_and : Read → ℕ → (Datum → ℕ → List (Datum × ℕ) × Option (Code × ℕ)) → List (Datum × ℕ) × Option (Code × ℕ)
  book_and (Got f n) place rest = rest f n
  book_and (Bad c n) place rest = ([], Some (c, place + n))

  abbrev pub before : Datum × ℕ → List (Datum × ℕ) × Option (Code × ℕ) → List (Datum × ℕ) × Option (Code × ℕ)
  before x rest = (x ∷ rest.0, rest.1)

  -- The forms with their places, and the first fault with its place, or none. The text begins at `place` of the book; it is read from its
  -- byte `skip` on, and so many more forms may come.
  unfoldable pub book : ℕ → ℕ → ℕ → List ℕ → List (Datum × ℕ) × Option (Code × ℕ)
  book left place skip [] = ([], if more then Some (BookTooLong, place) else None)
  book left place (suc skip) (b ∷ t) = book left (place + 1) skip t
  book left place zero (b ∷ t) =
      if nat_eq (length (behind (b ∷ t))) 0 then ([], if more then Some (BookTooLong, place + gaps (b ∷ t)) else None)
      else book_and (next_form (nat_eq left 0) (b ∷ t)) place (λ f n. before (f, place + gaps (b ∷ t)) (book (left - 1) (place + 1) n t))

  abbrev pub parse : List ℕ → List (Datum × ℕ) × Option (Code × ℕ)
  parse text = book MAX_FORMS 0 0 text

-- a whole book, of which a reader sees as many bytes as a book may have
abbrev pub book_of : List ℕ → List (Datum × ℕ) × Option (Code × ℕ)
book_of bytes = if nat_lt MAX_BOOK (length bytes) then parse true (take MAX_BOOK bytes) else parse false bytes
