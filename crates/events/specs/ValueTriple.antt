-- `value-triple`, which makes nothing and prints the value of a term. It may stand again.
use Rattle.std.specs.Prelude.{[], codes, Some, Ok, Err, false}
use Rattle.lisp_data.specs.Values.{Val}
use Rattle.lisp_data.specs.Datum.{Datum}
use Rattle.lisp_data.specs.declared.code.Code.TheVariants as code
use Rattle.lisp_data.specs.declared.detail.Detail.TheVariants as detail
use Rattle.terms.specs.Terms.{Tm}
use Rattle.terms.specs.Worlds.{World, arity, is_in}
use Rattle.term_forms.specs.Translation.{Outcome, translate}
use Rattle.evaluator.specs.Counted as evaluation
use Rattle.evaluator.specs.Counted.{IsVariable, ManyCalls, Wide, Large, Stuck, Gives, Stops, evaluated}
use Rattle.plans.specs.Plans.{no_plan}
use Rattle.events.specs.declared.refusal.Refusal.{Refusal}
use Rattle.events.specs.declared.refusal.Refusal.TheVariants.{Coded}
use Rattle.events.specs.Frames.{Judged, Frame, Never, no_clauses, coded, goes_on}

-- the term of the form, which has no variables
abbrev pub ground_term : World → Datum → Outcome Tm
ground_term W form = translate (arity W.functions) (is_in []) form

-- why a term has no value; evaluation is never stuck in a sound world (the evaluator's law `never_stuck`), so the last case never comes
abbrev pub without_value : evaluation.Refusal → Refusal
without_value (IsVariable f) = Coded code.HasFunctionVariables (detail.Name f)
without_value ManyCalls = Coded code.EvalTooManyCalls detail.Absent
without_value Wide = Coded code.EvalTooWide detail.Absent
without_value Large = Coded code.EvalTooLarge detail.Absent
without_value Stuck = Coded code.NotAnEvent detail.Absent

abbrev pub given : evaluation.Outcome → Judged Val
given (Gives v c) = Ok v
given (Stops why) = Err (without_value why)

-- the value of a form in a world, or the first refusal: the form is translated, and then its term is evaluated with limits
abbrev pub value_in : World → Datum → Judged Val
value_in W form = goes_on (coded (ground_term W form)) (λ t. given (evaluated W.functions.defs t))

abbrev pub value_triple : Datum → Frame
value_triple form = record {
  title = codes "value-triple";
  shows = false;
  prints = Some (λ W. value_in W form);
  names = [];
  repeats = Never;
  clauses = no_clauses;
  plan = λ W. Ok no_plan;
}
