-- What the reader of a book answers, call by call.
use Rattle.std.specs.Prelude.{◌≡◌, ℕ, List, [], ◌∷◌, Option, Some, None, Result, Ok, Err}
use Rattle.std.specs.Coded.{Coded, coded×, coded_list, coded_option, coded_ℕ}
use Rattle.lisp_data.specs.Datum.{Datum, datum_code}
use Rattle.lisp_data.specs.declared.code.Code.{Code}
use Rattle.lisp_data.specs.contracts.code.Code as code
use Rattle.lisp_data.specs.FormView.{form_of, IsProper}
use Rattle.lisp_reader.specs.declared.reader.Located.{Located}
use Rattle.lisp_reader.specs.declared.read.ReadError.{ReadError}
use Rattle.lisp_reader.specs.declared.read.ReadError.TheVariants.{Refused, Memory}

-- forms with their places, and the first fault with its place, or none
abbrev pub Answers : Type 0
Answers = List (Datum × ℕ) × Option (Code × ℕ)

abbrev pub answers_code : Coded Answers
answers_code = coded× (coded_list (coded× datum_code coded_ℕ)) (coded_option (coded× code.the_row.coded coded_ℕ))

-- a call answers the first of what is left, and leaves the rest; an end and a refusal stay, and a call that is out of memory leaves all
abbrev pub SaysNext : Answers → Result (Option Located) ReadError → Answers → Type 0
SaysNext old (Ok (Some l)) new = old ≡ ((form_of l.form, l.place) ∷ new.0, new.1)
SaysNext old (Ok None) new = (old ≡ ([], None)) × (new ≡ old)
SaysNext old (Err (Refused code place)) new = (old ≡ ([], Some (code, place))) × (new ≡ old)
SaysNext old (Err Memory) new = new ≡ old

-- the form that was found is proper
abbrev pub FindsProper : Result (Option Located) ReadError → Type 0
FindsProper (Ok (Some l)) = IsProper l.form
FindsProper _ = Unit {0}
