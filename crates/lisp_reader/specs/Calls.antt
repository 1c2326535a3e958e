-- Calls of a reader, one after the other.
use Rattle.std.specs.Prelude.{◌≡◌, ℕ, List, [], ◌∷◌, ◌++◌, Option, Some, None, Result, Ok, Err}
use Rattle.lisp_data.specs.Datum.{Datum}
use Rattle.lisp_data.specs.FormView.{form_of}
use Rattle.lisp_reader.specs.Answers.{Answers, SaysNext}
use Rattle.lisp_reader.specs.declared.reader.Located.{Located}
use Rattle.lisp_reader.specs.declared.read.ReadError.{ReadError}
use Rattle.lisp_reader.specs.declared.read.ReadError.TheVariants.{Refused, Memory}

-- what one call answers
abbrev pub Answer : Type 0
Answer = Result (Option Located) ReadError

-- calls that answer so, one after the other, and what they leave of the answers that were left
abbrev pub Run : Answers → List Answer → Answers → Type 0
Run old [] new = old ≡ new
Run old (r ∷ rs) new = (between : Answers) × SaysNext old r between × Run between rs new

-- the forms that they answer, with their places
abbrev pub found : List Answer → List (Datum × ℕ)
found [] = []
found (Ok (Some l) ∷ rs) = (form_of l.form, l.place) ∷ found rs
found (Ok None ∷ rs) = found rs
found (Err e ∷ rs) = found rs

-- an end or a fault that a call answers is this one, and it comes where no form is left
abbrev pub EndsAs : Answers → Answer → Type 0
EndsAs left (Ok (Some l)) = Unit {0}
EndsAs left (Ok None) = left ≡ ([], None)
EndsAs left (Err (Refused code place)) = left ≡ ([], Some (code, place))
EndsAs left (Err Memory) = Unit {0}

abbrev pub AllEndAs : Answers → List Answer → Type 0
AllEndAs left [] = Unit {0}
AllEndAs left (r ∷ rs) = EndsAs left r × AllEndAs left rs

-- Whatever calls there are, those that are out of memory among them: their forms are the first of those that were left, in order, the end of
-- what is left stays, and an end or a fault comes only where no form is left.
pub record ReadsInOrder (old new : Answers) (rs : List Answer) : Type 0 where
  pub forms : old.0 ≡ found rs ++ new.0
  pub end : old.1 ≡ new.1
  pub ends : AllEndAs new rs
