-- What one step through a book answers.
use Rattle.std.specs.Prelude.{◌≡◌, ℕ, ◌-◌, ◌≤◌, Bool, List, [], drop, Option, Some, None, Result, Ok, Err}
use Rattle.lisp_data.specs.FormView.{form_of, IsProper}
use Rattle.lisp_reader.specs.Answers.{Answers}
use Rattle.lisp_reader.specs.Grammar.{book, before}
use Rattle.lisp_reader.specs.declared.reader.Located.{Located}
use Rattle.lisp_reader.specs.declared.read.ReadError.{ReadError}
use Rattle.lisp_reader.specs.declared.read.ReadError.TheVariants.{Refused, Memory}

-- the answers are the one that was found and those from its place on
abbrev pub SaysStep : Bool → ℕ → List ℕ → Answers → Result (Option (Located × ℕ)) ReadError → Type 0
SaysStep more left bytes b (Ok (Some x)) = b ≡ before more (form_of x.0.form, x.0.place) (book more (left - 1) x.1 0 (drop x.1 bytes))
SaysStep more left bytes b (Ok None) = b ≡ ([], None)
SaysStep more left bytes b (Err (Refused code place)) = b ≡ ([], Some (code, place))
SaysStep more left bytes b (Err Memory) = Unit {0}

-- it goes on within n bytes
abbrev pub GoesOnWithin : ℕ → Result (Option (Located × ℕ)) ReadError → Type 0
GoesOnWithin n (Ok (Some x)) = x.1 ≤ n
GoesOnWithin n _ = Unit {0}

-- the form that was found is proper
abbrev pub StepIsProper : Result (Option (Located × ℕ)) ReadError → Type 0
StepIsProper (Ok (Some x)) = IsProper x.0.form
StepIsProper _ = Unit {0}
