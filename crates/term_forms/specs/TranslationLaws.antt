-- What is translated, and what it comes to.
use Rattle.std.specs.Prelude.{◌≡◌, Bool, true, ◌||◌, bytes_eq, is_some, codes, Some, None, Ok}
use Rattle.lisp_data.specs.Values.{Name, Val}
use Rattle.lisp_data.specs.Datum.{Datum}
use Rattle.terms.specs.Terms.{Tm, Var, Quote, Call, Tms, Done, More, Over}
use Rattle.term_forms.specs.Names.{is_variable_name}
use Rattle.term_forms.specs.Macros.{macro}
use Rattle.term_forms.specs.Printing.{form_of_term}
use Rattle.term_forms.specs.Translation.{Takes, Scope, is_small, is_limited, translate}

-- the functions are there that words of the syntax stand for
pub record HasWords (takes : Takes) : Type 0 where
  pub has_if : takes (codes "IF") ≡ Some 3
  pub has_equal : takes (codes "EQUAL") ≡ Some 2
  pub has_not : takes (codes "NOT") ≡ Some 1
  pub has_less : takes (codes "<") ≡ Some 2
  pub has_plus : takes (codes "BINARY-+") ≡ Some 2
  pub has_times : takes (codes "BINARY-*") ≡ Some 2
  pub has_minus : takes (codes "UNARY--") ≡ Some 1
  pub has_cons : takes (codes "CONS") ≡ Some 2
  pub has_car : takes (codes "CAR") ≡ Some 1
  pub has_cdr : takes (codes "CDR") ≡ Some 1
  pub has_append : takes (codes "BINARY-APPEND") ≡ Some 2

-- each quoted value satisfies P
abbrev mutual
  pub Quotes : (Val → Type 0) → Tm → Type 0
  Quotes P (Var x) = Unit {0}
  Quotes P (Quote v) = P v
  Quotes P (Call f ts) = QuotesAll P ts

  pub QuotesAll : (Val → Type 0) → Tms → Type 0
  QuotesAll P Done = Unit {0}
  QuotesAll P (More t ts) = Quotes P t × QuotesAll P ts

-- a term that calls known functions, each with its number of arguments, on variables of the scope, and keeps the limits
pub record IsTermOver (takes : Takes) (scope : Scope) (t : Tm) : Type 0 where
  pub fits : Over (λ x. scope x ≡ true) (λ f k. takes f ≡ Some k) t
  pub variables : Over (λ x. is_variable_name x ≡ true) (λ f k. Unit {0}) t
  pub values : Quotes (λ v. is_small v ≡ true) t
  pub limits : is_limited t ≡ true

-- what is translated is a term over the functions and the scope
abbrev pub TranslatedTermsFit : Type 0
TranslatedTermsFit = (takes : Takes) → HasWords takes → (scope : Scope) (form : Datum) (t : Tm) → translate takes scope form ≡ Ok t → IsTermOver takes scope t

-- the name has a syntax of its own
abbrev pub is_word : Name → Bool
is_word f = bytes_eq f (codes "QUOTE") || bytes_eq f (codes "LET") || bytes_eq f (codes "LET*") || bytes_eq f (codes "COND") || is_some (macro f)

-- no word of the syntax is a function
abbrev pub WordsApart : Takes → Type 0
WordsApart takes = (f : Name) → is_word f ≡ true → takes f ≡ None

-- the form of a term is translated to that term again
abbrev pub TermsAreTranslated : Type 0
TermsAreTranslated = (takes : Takes) → WordsApart takes → (scope : Scope) (t : Tm) → IsTermOver takes scope t → translate takes scope (form_of_term t) ≡ Ok t
