-- Terms as texts and as forms.
use Rattle.std.specs.Prelude.{◌≡◌, ◌≤◌, ℕ, List, [], ◌∷◌, ◌++◌, length, codes, None}
use Rattle.lisp_data.specs.Datum.{Datum, SymForm, PairForm, nil_form}
use Rattle.lisp_reader.specs.Grammar.{book_of}
use Rattle.lisp_reader.specs.Printed.{datum_of, value_text, nesting, IsPrintable}
use Rattle.terms.specs.Terms.{Tm, Var, Quote, Call, Tms, Done, More}
use Rattle.lisp_reader.specs.declared.limits.TheConstants.{MAX_BOOK, MAX_NESTING}

-- a variable as it is, a quoted value after a quote, and a call as a list: `x`, `'v`, `(f a b)`
abbrev mutual
  pub term_text : Tm → List ℕ
  term_text (Var x) = x
  term_text (Quote v) = codes "'" ++ value_text v
  term_text (Call f ts) = codes "(" ++ f ++ arguments_text ts

  -- each after a blank, and the end of the list
  pub arguments_text : Tms → List ℕ
  arguments_text Done = codes ")"
  arguments_text (More t ts) = codes " " ++ term_text t ++ arguments_text ts

-- a variable as its symbol, a quoted value as the list `(quote v)`, and a call as the list of its name and arguments
abbrev mutual
  pub form_of_term : Tm → Datum
  form_of_term (Var x) = SymForm x
  form_of_term (Quote v) = PairForm (SymForm (codes "QUOTE")) (PairForm (datum_of v) nil_form)
  form_of_term (Call f ts) = PairForm (SymForm f) (form_of_arguments ts)

  pub form_of_arguments : Tms → Datum
  form_of_arguments Done = nil_form
  form_of_arguments (More t ts) = PairForm (form_of_term t) (form_of_arguments ts)

-- its integers have 128 bits, and its variables, its functions and the symbols of its values are symbols
abbrev pub IsPrintableTerm : Tm → Type 0
IsPrintableTerm t = IsPrintable (form_of_term t)

-- the text of a term, as a book, is its form alone, if it keeps the limits of a book
pub record IsTermAgain (t : Tm) : Type 0 where
  pub read : nesting (form_of_term t) ≤ MAX_NESTING → length (term_text t) ≤ MAX_BOOK → book_of (term_text t) ≡ ((form_of_term t, 0) ∷ [], None)
