-- The values that a book prints: each is the model's.
use Rattle.std.specs.Prelude.{◌≡◌, ℕ, false, List, [], ◌∷◌, Ok, if◌then◌else◌}
use Rattle.lisp_data.specs.Values.{Val}
use Rattle.lisp_data.specs.Datum.{Datum}
use Rattle.terms.specs.Worlds.{World, Each}
use Rattle.event_forms.specs.Shapes.{ValueTriple, event_of}
use Rattle.events.specs.Verdicts.{Printed, verdict}
use Rattle.events.specs.Lines.{value_line}
use Rattle.events.specs.ModelValues.{IsModelValue}
use Rattle.book_cli.specs.declared.progress.Progress.{Progress}
use Rattle.book_cli.specs.declared.words.Flags.{Flags}
use Rattle.book_cli.specs.Report.{Read, begin, after, is_refusal, goes_on, event_lines}

-- the events that a run handles, each with the progress before it
abbrev pub turns : Flags → Progress → List (Datum × ℕ) → List (Progress × (Datum × ℕ))
turns flags p [] = []
turns flags p (e ∷ es) =
    (p, e) ∷ (if goes_on flags.continues (verdict p.world e.0) then turns flags (after p (verdict p.world e.0)) es else [])

-- the one line is `value ` with the text of the value that the form has in the model, in this world
pub record IsValueLine (W : World) (form : Datum) (lines : List (List ℕ)) : Type 0 where
  pub value : Val
  pub is_value : IsModelValue W form value
  pub lines_are : lines ≡ value_line value ∷ []

-- A value-triple that isn't refused has the line of its form's value in the world before it, and no other event prints a value.
pub record PrintsTheModel (flags : Flags) (p : Progress) (e : Datum × ℕ) : Type 0 where
  pub value_triple : (form : Datum) → event_of e.0 ≡ Ok (ValueTriple form) → is_refusal (verdict p.world e.0) ≡ false → IsValueLine p.world form (event_lines flags p e)
  pub no_other : (v : Val) → verdict p.world e.0 ≡ Printed v → (form : Datum) × (event_of e.0 ≡ Ok (ValueTriple form))

-- each value that is printed for what was read is the model's
abbrev pub ValuesAreTrue : Flags → Read → Type 0
ValuesAreTrue flags read = Each (λ turn. PrintsTheModel flags turn.0 turn.1) (turns flags begin read.0)

-- it is so whatever was read
abbrev pub PrintedValuesAreTrue : Type 0
PrintedValuesAreTrue = (flags : Flags) (read : Read) → ValuesAreTrue flags read
