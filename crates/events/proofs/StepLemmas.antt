-- The answers to events.
use Rattle.std.proofs.Common.{codes, ◌≡◌, ℕ, Bool, List, [], ◌∷◌, Result, Ok, Err, refl, ap, sym, ◌∙◌, subst}
use Rattle.std.specs.Result.{IsErr, IsErrAnd}
use Rattle.lisp_data.specs.Datum.{Datum}
use Rattle.lisp_data.specs.RefusalCodes.{number}
use Rattle.terms.specs.Terms.{Tm}
use Rattle.terms.specs.Worlds.{World}
use Rattle.term_forms.specs.Translation.{Outcome, map_outcome}
use Rattle.term_forms.specs.TranslationView.{SaysOutcome}
use Rattle.term_forms.specs.declared.translation.TermError.{TermError}
use Rattle.term_forms.specs.declared.translation.TermError.TheVariants as term
use Rattle.event_forms.specs.Shapes.{Event, event_of}
use Rattle.events.specs.view.Halts.{IsRefusal, IsFromTerm, Reads, Answers}
use Rattle.events.specs.Lines.{text_of, refused_lines}
use Rattle.events.specs.Refusals.{refusal_code}
use Rattle.events.specs.Shown.{shape_lines}
use Rattle.events.specs.Steps.{IsStep}
use Rattle.events.specs.Verdicts as verdict
use Rattle.events.specs.declared.refusal.Refusal.{Refusal}
use Rattle.events.specs.declared.refusal.Refusal.TheVariants.{Coded, ProofWrong, AtNode, NotProved}
use Rattle.events.specs.declared.halt.Halt.{Halt}
use Rattle.events.specs.declared.halt.Halt.TheVariants.{Refused}
use Rattle.events.specs.declared.steps.StepAnswer.{StepAnswer}
use Rattle.events.specs.declared.steps.StepAnswer.TheVariants as answer

-- a term's error is the refusal of the term
pub term_refusal : (o : Outcome Tm) (t : TermError) (h : Halt) → SaysOutcome {A = Tm} o (Err t) → IsFromTerm t h → IsRefusal o h
term_refusal o (term.Refused code d) h e is = subst (IsRefusal o) (sym is) e
term_refusal o term.Memory h e is = subst (IsRefusal o) (sym is) tt

-- and of what is made of the term
pub mapped_refusal : {A : Type 0} (f : Tm → A) (o : Outcome Tm) (t : TermError) (h : Halt) → SaysOutcome {A = Tm} o (Err t) → IsFromTerm t h → IsRefusal (map_outcome f o) h
mapped_refusal f o (term.Refused code d) h e is = subst (IsRefusal (map_outcome f o)) (sym is) (ap (map_outcome f) e)
mapped_refusal f o term.Memory h e is = subst (IsRefusal (map_outcome f o)) (sym is) tt

-- a term's error is the refusal of the term
pub first_refusal : (o : Outcome Tm) (t : TermError) (h : Halt) → SaysOutcome {A = Tm} o (Err t) → IsFromTerm t h → IsRefusal o h
first_refusal o (term.Refused code d) h e is = subst (IsRefusal o) (sym is) e
first_refusal o term.Memory h e is = subst (IsRefusal o) (sym is) tt

pub by_error : {A B : Type 0} (seen : A → B) (o : Outcome B) (r : Result A Halt) (P : Halt → Type 0) → IsErr r × IsErrAnd r P → ((h : Halt) → P h → IsRefusal o h) → Reads seen o r
by_error seen o (Ok x) P h f = absurd h.1
by_error seen o (Err e) P h f = f e h.1

module _ (W : World) (form : Datum) (place index : ℕ) (show : Bool) where
  -- an answer that is no refusal
  pub stepped : (a : StepAnswer) → Answers W form (event_of form) show (Ok a) → IsStep W form place index show a
  stepped a h = by_shape_of (event_of form) refl a h
    where
      by_shape_of : (o : Outcome Event) → event_of form ≡ o → (a : StepAnswer) → Answers W form o show (Ok a) → IsStep W form place index show a
      by_shape_of (Ok event) is (answer.Accepted next lines proofs) h = record {
        event = event;
        is_event = is;
        plan = h.plan;
        is_plan = h.is_plan;
        verdict_is = ap (verdict.by_shape W form) is ∙ h.verdict_is;
        lines_are = h.lines_are ∙ ap (λ o. text_of (codes "ok ") o ∷ shape_lines show W o) (sym is);
        proved = h.proved;
      }
      by_shape_of (Ok event) is (answer.Redundant lines) h = record {
        verdict_is = ap (verdict.by_shape W form) is ∙ h.0;
        lines_are = h.1 ∙ ap (λ o. text_of (codes "redundant ") o ∷ []) (sym is);
      }
      by_shape_of (Ok event) is (answer.Printed lines) h = record {
        value = h.value;
        verdict_is = ap (verdict.by_shape W form) is ∙ h.verdict_is;
        lines_are = h.lines_are;
      }
      by_shape_of (Ok event) is (answer.Refused code lines) h = absurd h
      by_shape_of (Err e) is a h = absurd h

  -- a refusal is the verdict's
  pub refused : (why : Refusal) → Answers W form (event_of form) show (Err (Refused why)) → verdict.verdict W form ≡ verdict.Refused why
  refused why h = by_shape_of (event_of form) refl why h
    where
      by_shape_of : (o : Outcome Event) → event_of form ≡ o → (why : Refusal) → Answers W form o show (Err (Refused why)) → verdict.verdict W form ≡ verdict.Refused why
      by_shape_of (Ok event) is why h = ap (verdict.by_shape W form) is ∙ h
      by_shape_of (Err e) is (Coded code detail) h = ap (verdict.by_shape W form) (is ∙ h)
      by_shape_of (Err e) is (ProofWrong condition node rule) h = absurd h
      by_shape_of (Err e) is (AtNode code condition node) h = absurd h
      by_shape_of (Err e) is (NotProved condition leaf) h = absurd h

  pub refused_step : (why : Refusal) (code : ℕ) (lines : List (List ℕ)) → Answers W form (event_of form) show (Err (Refused why)) → code ≡ number (refusal_code why) → lines ≡ refused_lines index why place → IsStep W form place index show (answer.Refused code lines)
  refused_step why code lines h code_is lines_are = record { why = why; verdict_is = refused why h; code_is = code_is; lines_are = lines_are }
