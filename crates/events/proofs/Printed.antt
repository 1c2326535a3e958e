-- The values that are printed.
use Rattle.std.proofs.Common.{◌≡◌, Bool, true, false, if◌then◌else◌, Option, Some, None, Ok, Err, refl, ap, sym, ◌∙◌, subst}
use Rattle.lisp_data.specs.Values.{Val}
use Rattle.lisp_data.specs.Datum.{Datum}
use Rattle.terms.specs.Terms.{Tm}
use Rattle.terms.specs.Worlds.{World}
use Rattle.term_forms.specs.Translation.{Outcome}
use Rattle.evaluator.specs.Counted as evaluation
use Rattle.evaluator.specs.Counted.{Gives, Stops, evaluated}
use Rattle.evaluator.specs.Laws.{CountedLaw}
use Rattle.event_forms.specs.Shapes.{Event, InPackage, IncludeBook, Defun, Defthm, Defiso, Restrict, Isodata, Defun2, Defunvar, DefunSk2, DefunInst, DefthmInst, ValueTriple, event_of}
use Rattle.plans.specs.declared.plan.Plan.{Plan}
use Rattle.events.specs.Frames.{Judged, Frame, coded, goes_on}
use Rattle.events.specs.Kinds.{frame_of}
use Rattle.events.specs.Redundancy.{is_redundant}
use Rattle.events.specs.ValueTriple.{ground_term, given, value_in}
use Rattle.events.specs.ModelValues.{IsModelValue}
use Rattle.events.specs.Verdicts.{Verdict, Accepted, Redundant, Printed, Refused, printed, ended, checked, by_shape, verdict_of, verdict}
use Rattle.events.specs.Laws.{PrintedIsTrue, IsPrintedOrRefused, ValueTriplesPrint}

-- an event that prints nothing has no value for its end
silent_end : (W : World) (form : Datum) (o : Judged Plan) (v : Val) → ended W form None o ≡ Printed v → ⊥
silent_end W form (Ok p) v h = cc
silent_end W form (Err why) v h = cc

silent : (W : World) (form : Datum) (e : Frame) → e.prints ≡ None → (v : Val) → verdict_of W form e ≡ Printed v → ⊥
silent W form e is v h = by_redundant (is_redundant W form e.repeats) (subst (λ prints. (if is_redundant W form e.repeats then Redundant else ended W form prints (checked W e)) ≡ Printed v) is h)
  where
    by_redundant : (b : Bool) → (if b then Redundant else ended W form None (checked W e)) ≡ Printed v → ⊥
    by_redundant true h' = cc
    by_redundant false h' = silent_end W form (checked W e) v h'

module _ (law : CountedLaw) (W : World) where
  -- the value of a form is the model's
  model_value : (form : Datum) (v : Val) → printed (value_in W form) ≡ Printed v → IsModelValue W form v
  model_value form v h = by_term (ground_term W form) refl h
    where
      by_value : (t : Tm) → ground_term W form ≡ Ok t → (o : evaluation.Outcome) → evaluated W.functions.defs t ≡ o → printed (given o) ≡ Printed v → IsModelValue W form v
      by_value t is_term (Stops why) is h' = absurd (cc)
      by_value t is_term (Gives u c) is h' =
          let same : u ≡ v = cc in
          record { term = t; is_term = is_term; is_value = law W.functions.defs t v c (is ∙ ap (λ w. Gives w c) same) }

      by_term : (o : Outcome Tm) → ground_term W form ≡ o → printed (goes_on (coded o) (λ t. given (evaluated W.functions.defs t))) ≡ Printed v → IsModelValue W form v
      by_term (Err e) is h' = absurd (cc)
      by_term (Ok t) is h' = by_value t is (evaluated W.functions.defs t) refl h'

  true_by_shape : (form : Datum) (v : Val) (o : Outcome Event) → by_shape W form o ≡ Printed v → (part : Datum) × (o ≡ Ok (ValueTriple part)) × IsModelValue W part v
  true_by_shape form v (Err e) h = absurd (cc)
  true_by_shape form v (Ok InPackage) h = absurd (silent W form (frame_of InPackage) refl v h)
  true_by_shape form v (Ok (IncludeBook book)) h = absurd (silent W form (frame_of (IncludeBook book)) refl v h)
  true_by_shape form v (Ok (Defun function)) h = absurd (silent W form (frame_of (Defun function)) refl v h)
  true_by_shape form v (Ok (Defthm theorem)) h = absurd (silent W form (frame_of (Defthm theorem)) refl v h)
  true_by_shape form v (Ok (Restrict restriction)) h = absurd (silent W form (frame_of (Restrict restriction)) refl v h)
  true_by_shape form v (Ok (Isodata representation)) h = absurd (silent W form (frame_of (Isodata representation)) refl v h)
  true_by_shape form v (Ok (Defiso iso)) h = absurd (silent W form (frame_of (Defiso iso)) refl v h)
  true_by_shape form v (Ok (Defun2 function)) h = absurd (silent W form (frame_of (Defun2 function)) refl v h)
  true_by_shape form v (Ok (Defunvar variable)) h = absurd (silent W form (frame_of (Defunvar variable)) refl v h)
  true_by_shape form v (Ok (DefunSk2 specification)) h = absurd (silent W form (frame_of (DefunSk2 specification)) refl v h)
  true_by_shape form v (Ok (DefunInst instance)) h = absurd (silent W form (frame_of (DefunInst instance)) refl v h)
  true_by_shape form v (Ok (DefthmInst instance)) h = absurd (silent W form (frame_of (DefthmInst instance)) refl v h)
  true_by_shape form v (Ok (ValueTriple part)) h = (part, refl, model_value part v h)

pub printed_is_true : CountedLaw → PrintedIsTrue
printed_is_true law W form v h = true_by_shape law W form v (event_of form) h

ends_so : (o : Judged Val) → IsPrintedOrRefused (printed o)
ends_so (Ok v) = tt
ends_so (Err why) = tt

pub value_triples_print : ValueTriplesPrint
value_triples_print W form part is = subst (λ o. IsPrintedOrRefused (by_shape W form o)) (sym is) (ends_so (value_in W part))
