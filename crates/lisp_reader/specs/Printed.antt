-- How forms and values are written.
use Rattle.std.specs.Prelude.{◌≡◌, ℕ, ◌+◌, ◌≤◌, max, true, false, ◌||◌, nat_eq, bytes_eq, if◌then◌else◌, List, [], ◌∷◌, ◌++◌, length, codes, None}
use Rattle.std.specs.Fmt.{signed_decimal}
use Rattle.lisp_data.specs.Datum.{Datum, IntForm, SymForm, TextForm, PairForm}
use Rattle.lisp_data.specs.Atoms.{is_narrow}
use Rattle.lisp_data.specs.SymbolText.{IsSymbolText}
use Rattle.lisp_data.specs.Values.{Val}
use Rattle.lisp_data.specs.Values as v
use Rattle.lisp_reader.specs.FormValue.{has_text, value}
use Rattle.lisp_reader.specs.Grammar.{book_of}
use Rattle.lisp_reader.specs.declared.limits.TheConstants.{MAX_BOOK, MAX_NESTING}

-- what stands between the quotes of a string: a backslash before each quote and each backslash
unfoldable pub escaped : List ℕ → List ℕ
escaped [] = []
escaped (b ∷ t) = if nat_eq b 34 || nat_eq b 92 then 92 ∷ b ∷ escaped t else b ∷ escaped t

unfoldable mutual
  -- A list is written as its items in parentheses, with a blank between two.
  pub form_text : Datum → List ℕ
  form_text (IntForm z) = signed_decimal z
  form_text (SymForm s) = s
  form_text (TextForm s) = 34 ∷ escaped s ++ 34 ∷ []
  form_text (PairForm a d) = 40 ∷ form_text a ++ rest_text d

  -- the rest of a list after an item: a point stands before an end that isn't NIL
  pub rest_text : Datum → List ℕ
  rest_text (IntForm z) = codes " . " ++ signed_decimal z ++ 41 ∷ []
  rest_text (SymForm s) = if bytes_eq s (codes "NIL") then 41 ∷ [] else codes " . " ++ s ++ 41 ∷ []
  rest_text (TextForm s) = codes " . " ++ (34 ∷ escaped s ++ 34 ∷ []) ++ 41 ∷ []
  rest_text (PairForm a d) = 32 ∷ form_text a ++ rest_text d

-- items, with a blank between two
abbrev pub items_text : List Datum → List ℕ
items_text [] = []
items_text (f ∷ []) = form_text f
items_text (f ∷ g ∷ fs) = form_text f ++ 32 ∷ items_text (g ∷ fs)

-- a value as a form
abbrev pub datum_of : Val → Datum
datum_of (v.Int z) = IntForm z
datum_of (v.Sym s) = SymForm s
datum_of (v.Pair a d) = PairForm (datum_of a) (datum_of d)

abbrev pub value_text : Val → List ℕ
value_text x = form_text (datum_of x)

-- how many lists are open at most in the text of a form
abbrev pub nesting : Datum → ℕ
nesting (IntForm z) = 0
nesting (SymForm s) = 0
nesting (TextForm s) = 0
nesting (PairForm a d) = max (nesting a + 1) (nesting d)

-- its integers have 128 bits, and its symbols are symbols
abbrev pub IsPrintable : Datum → Type 0
IsPrintable (IntForm z) = is_narrow z ≡ true
IsPrintable (SymForm s) = IsSymbolText s
IsPrintable (TextForm s) = Unit {0}
IsPrintable (PairForm a d) = IsPrintable a × IsPrintable d

abbrev pub ArePrintable : List Datum → Type 0
ArePrintable [] = Unit {0}
ArePrintable (f ∷ fs) = IsPrintable f × ArePrintable fs

-- the text of a form, as a book, is that form alone, if it keeps the limits of a book
pub record IsReadAgain (d : Datum) : Type 0 where
  pub read : nesting d ≤ MAX_NESTING → length (form_text d) ≤ MAX_BOOK → book_of (form_text d) ≡ ((d, 0) ∷ [], None)

-- the text of a value is read as a form, which has no text in it and whose value is that value
pub record IsValueAgain (x : Val) : Type 0 where
  pub read : IsReadAgain (datum_of x)
  pub plain : has_text (datum_of x) ≡ false
  pub value : value (datum_of x) ≡ x
