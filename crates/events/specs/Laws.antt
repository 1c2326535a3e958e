-- The laws of events.
use Rattle.std.specs.Prelude.{◌≡◌, ℕ, ◌+◌, Bool, List, [], length, Ok}
use Rattle.lisp_data.specs.Values.{Val}
use Rattle.lisp_data.specs.Datum.{Datum}
use Rattle.terms.specs.Worlds.{World, Each, FitsSequent}
use Rattle.terms.specs.Sound.{Sound}
use Rattle.event_forms.specs.Shapes.{ValueTriple, event_of}
use Rattle.plans.specs.declared.plan.Condition.{Condition}
use Rattle.plans.specs.declared.plan.Plan.{Plan}
use Rattle.plans.specs.Plans.{IsLawfulPlan}
use Rattle.events.specs.declared.handle.EventProofs.{EventProofs}
use Rattle.events.specs.Frames.{Frame}
use Rattle.events.specs.Verdicts.{Verdict, Accepted, Redundant, Printed, Refused, new_names, verdict_of, verdict}
use Rattle.events.specs.ModelValues.{IsModelValue}
use Rattle.events.specs.Steps.{IsAccepted}

-- each condition of a plan is well formed in the world
abbrev pub ConditionsFit : World → List Condition → Type 0
ConditionsFit W cs = Each (λ c. FitsSequent W.functions c.sequent) cs

-- a lawful plan with well-formed conditions
pub record IsSuited (W : World) (p : Plan) : Type 0 where
  pub lawful : IsLawfulPlan W p
  pub fits : ConditionsFit W p.conditions

-- each plan that the event has in a sound world where its names are new is lawful, with well-formed conditions
abbrev pub IsLawful : Frame → Type 0
IsLawful e = (W : World) → Sound W → new_names W [] e.names ≡ Ok tt → (p : Plan) → e.plan W ≡ Ok p → IsSuited W p

-- a lawful event that is accepted in a sound world makes a sound world
abbrev pub AcceptedIsSound : Type 0
AcceptedIsSound = (W : World) → Sound W → (form : Datum) (e : Frame) → IsLawful e → (next : World) → verdict_of W form e ≡ Accepted next → Sound next

-- an accepted event has one proof for each of its conditions and claims
abbrev pub ProofForEach : Type 0
ProofForEach =
    (W : World) (form : Datum) (show : Bool) (next : World) (lines : List (List ℕ)) (proofs : EventProofs) → (a : IsAccepted W form show next lines proofs) →
    (length proofs.before ≡ length a.plan.conditions + length a.plan.before) × (length proofs.after ≡ length a.plan.after)

-- a value that is printed is the one that the form of a value-triple has in the model
abbrev pub PrintedIsTrue : Type 0
PrintedIsTrue =
    (W : World) (form : Datum) (v : Val) → verdict W form ≡ Printed v → (part : Datum) × (event_of form ≡ Ok (ValueTriple part)) × IsModelValue W part v

abbrev pub IsPrintedOrRefused : Verdict → Type 0
IsPrintedOrRefused (Accepted next) = ⊥
IsPrintedOrRefused Redundant = ⊥
IsPrintedOrRefused (Printed v) = Unit {0}
IsPrintedOrRefused (Refused why) = Unit {0}

-- a value-triple prints a value, or is refused
abbrev pub ValueTriplesPrint : Type 0
ValueTriplesPrint = (W : World) (form part : Datum) → event_of form ≡ Ok (ValueTriple part) → IsPrintedOrRefused (verdict W form)
