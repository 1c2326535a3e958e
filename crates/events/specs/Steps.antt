-- What the handling of one event answers.
use Rattle.std.specs.Prelude.{◌≡◌, ℕ, Bool, List, [], ◌∷◌, Ok}
use Rattle.lisp_data.specs.Values.{Val}
use Rattle.lisp_data.specs.Datum.{Datum}
use Rattle.lisp_data.specs.RefusalCodes.{number}
use Rattle.terms.specs.Worlds.{World}
use Rattle.event_forms.specs.Shapes.{Event, event_of}
use Rattle.plans.specs.declared.plan.Plan.{Plan}
use Rattle.plans.specs.Proving.{AreProofs}
use Rattle.events.specs.declared.refusal.Refusal.{Refusal}
use Rattle.events.specs.declared.handle.EventProofs.{EventProofs}
use Rattle.events.specs.declared.steps.StepAnswer.{StepAnswer}
use Rattle.events.specs.declared.steps.StepAnswer.TheVariants as answer
use Rattle.events.specs.Kinds.{frame_of}
use Rattle.events.specs.Verdicts.{Accepted, Redundant, Printed, Refused, checked, verdict}
use Rattle.events.specs.Refusals.{refusal_code}
use Rattle.events.specs.Lines.{ok_line, redundant_line, value_line, refused_lines}
use Rattle.events.specs.Shown.{shown_lines}

-- An accepted event makes this world, and has this line and those that show what it makes. Each condition of its plan, and each of the plan's
-- claims, is proved: in order, those of the world before it, and those of the world with its functions.
pub record IsAccepted (W : World) (form : Datum) (show : Bool) (next : World) (lines : List (List ℕ)) (proofs : EventProofs) : Type 0 where
  pub event : Event
  pub is_event : event_of form ≡ Ok event
  pub plan : Plan
  pub is_plan : checked W (frame_of event) ≡ Ok plan
  pub verdict_is : verdict W form ≡ Accepted next
  pub lines_are : lines ≡ ok_line form ∷ shown_lines show W form
  pub proved : AreProofs W plan proofs.before proofs.after

-- an event that was accepted before has this line
pub record IsRedundant (W : World) (form : Datum) (lines : List (List ℕ)) : Type 0 where
  pub verdict_is : verdict W form ≡ Redundant
  pub lines_are : lines ≡ redundant_line form ∷ []

-- a value that is printed has this line
pub record IsPrinted (W : World) (form : Datum) (lines : List (List ℕ)) : Type 0 where
  pub value : Val
  pub verdict_is : verdict W form ≡ Printed value
  pub lines_are : lines ≡ value_line value ∷ []

-- a refused event has this code and these lines
pub record IsRefused (W : World) (form : Datum) (place index code : ℕ) (lines : List (List ℕ)) : Type 0 where
  pub why : Refusal
  pub verdict_is : verdict W form ≡ Refused why
  pub code_is : code ≡ number (refusal_code why)
  pub lines_are : lines ≡ refused_lines index why place

-- the answer is the verdict's
abbrev pub IsStep : World → Datum → ℕ → ℕ → Bool → StepAnswer → Type 0
IsStep W form place index show (answer.Accepted next lines proofs) = IsAccepted W form show next lines proofs
IsStep W form place index show (answer.Redundant lines) = IsRedundant W form lines
IsStep W form place index show (answer.Printed lines) = IsPrinted W form lines
IsStep W form place index show (answer.Refused code lines) = IsRefused W form place index code lines
