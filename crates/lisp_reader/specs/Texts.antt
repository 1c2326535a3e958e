-- The texts of a form.
use Rattle.std.specs.Prelude.{◌≡◌, ℕ, suc, ◌≤◌, ℤ, true, List, [], ◌∷◌, ◌++◌, length, codes, None}
use Rattle.std.specs.Fmt.{signed_decimal}
use Rattle.lisp_data.specs.Datum.{Datum, IntForm, SymForm, TextForm, PairForm, nil_form}
use Rattle.lisp_data.specs.Atoms.{is_narrow}
use Rattle.lisp_data.specs.SymbolText.{IsSymbolText}
use Rattle.lisp_reader.specs.Grammar.{quote_form, book_of}
use Rattle.lisp_reader.specs.Printed.{escaped, form_text, nesting, IsPrintable}
use Rattle.lisp_reader.specs.declared.limits.TheConstants.{MAX_BOOK, MAX_NESTING}

mutual
  -- A text of a form, in which so many lists and quotes at most are open at once: an integer in decimal, a symbol's text, a string,
  -- a quote and a text of what is quoted, or a list, as its first item and the rest.
  pub data IsText : ℕ → Datum → List ℕ → Type 0 where
    integer : {k : ℕ} (z : ℤ) → is_narrow z ≡ true → IsText k (IntForm z) (signed_decimal z)
    symbol : {k : ℕ} (s : List ℕ) → IsSymbolText s → IsText k (SymForm s) s
    string : {k : ℕ} (s : List ℕ) → IsText k (TextForm s) (34 ∷ escaped s ++ 34 ∷ [])
    quoted : {k : ℕ} {f : Datum} {t : List ℕ} → IsText k f t → IsText (suc k) (quote_form f) (39 ∷ t)
    list : {k : ℕ} {a d : Datum} {x y : List ℕ} → IsText k a x → IsRestText k d y → IsText (suc k) (PairForm a d) (40 ∷ x ++ y)

  -- A text of the rest of a list after an item, in whose forms so many lists and quotes at most are open at once: the end, a point and
  -- the last form, or a blank, the next item and the rest.
  pub data IsRestText : ℕ → Datum → List ℕ → Type 0 where
    end : {k : ℕ} → IsRestText k nil_form (41 ∷ [])
    last : {k : ℕ} {f : Datum} {x : List ℕ} → IsText k f x → IsRestText k f (codes " . " ++ x ++ 41 ∷ [])
    next : {k : ℕ} {a d : Datum} {x y : List ℕ} → IsText k a x → IsRestText k d y → IsRestText k (PairForm a d) (32 ∷ x ++ y)

-- Each text of a form, as a book, is that form alone, if it keeps the limits of a book.
abbrev pub TextsAreRead : Type 0
TextsAreRead = (d : Datum) (text : List ℕ) → IsText MAX_NESTING d text → length text ≤ MAX_BOOK → book_of text ≡ ((d, 0) ∷ [], None)

-- What is printed of a form is a text of it.
abbrev pub PrintsAreTexts : Type 0
PrintsAreTexts = (d : Datum) (k : ℕ) → IsPrintable d → nesting d ≤ k → IsText k d (form_text d)
