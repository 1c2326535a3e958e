-- The values that are printed.
use Rattle.std.proofs.Common.{◌≡◌, ℕ, ◌+◌, Bool, true, false, List, [], ◌∷◌, Ok, if◌then◌else◌, refl, ap, sym, ◌∙◌, subst}
use Rattle.lisp_data.specs.Datum.{Datum}
use Rattle.lisp_data.specs.Values.{Val}
use Rattle.terms.specs.Worlds.{World, Each}
use Rattle.event_forms.specs.Shapes.{ValueTriple, event_of}
use Rattle.events.specs.Verdicts.{Verdict, Accepted, Redundant, Printed, Refused, verdict}
use Rattle.events.specs.Laws.{PrintedIsTrue, IsPrintedOrRefused, ValueTriplesPrint}
use Rattle.events.specs.ModelValues.{IsModelValue}
use Rattle.book_cli.specs.declared.progress.Progress.{Progress}
use Rattle.book_cli.specs.declared.words.Flags.{Flags}
use Rattle.book_cli.specs.Report.{is_refusal, after, goes_on, verdict_lines, event_lines, begin}
use Rattle.book_cli.specs.Values.{turns, IsValueLine, PrintsTheModel, PrintedValuesAreTrue}

module _ (is_true : PrintedIsTrue) (prints : ValueTriplesPrint) (flags : Flags) where
  -- the line of a value-triple that isn't refused
  value_line_is : (p : Progress) (e : Datum × ℕ) (form : Datum) → event_of e.0 ≡ Ok (ValueTriple form) → is_refusal (verdict p.world e.0) ≡ false → IsValueLine p.world form (event_lines flags p e)
  value_line_is p e form is accepted = by_verdict (verdict p.world e.0) refl (prints p.world e.0 form is) accepted
    where
      by_verdict : (v : Verdict) → verdict p.world e.0 ≡ v → IsPrintedOrRefused v → is_refusal v ≡ false → IsValueLine p.world form (event_lines flags p e)
      by_verdict (Accepted next) v_is h a = absurd h
      by_verdict Redundant v_is h a = absurd h
      by_verdict (Refused why) v_is h a = absurd (cc)
      by_verdict (Printed v) v_is h a =
          let t = is_true p.world e.0 v v_is in
          let same : t.0 ≡ form = cc (t.1, is) in
          record {
            value = v;
            is_value = subst (λ part. IsModelValue p.world part v) same t.2;
            lines_are = ap (λ w. verdict_lines flags p.world w e (p.handled + 1)) v_is;
          }

  turn_is_true : (p : Progress) (e : Datum × ℕ) → PrintsTheModel flags p e
  turn_is_true p e = record {
    value_triple = value_line_is p e;
    no_other = λ v h. (let t = is_true p.world e.0 v h in (t.0, t.1));
  }

  all_true : (p : Progress) (es : List (Datum × ℕ)) → Each (λ turn. PrintsTheModel flags turn.0 turn.1) (turns flags p es)
  all_true p [] = tt
  all_true p (e ∷ es) = (turn_is_true p e, by_test (goes_on flags.continues (verdict p.world e.0)) (all_true (after p (verdict p.world e.0)) es))
    where
      by_test : (b : Bool) → Each (λ turn. PrintsTheModel flags turn.0 turn.1) (turns flags (after p (verdict p.world e.0)) es) → Each (λ turn. PrintsTheModel flags turn.0 turn.1) (if b then turns flags (after p (verdict p.world e.0)) es else [])
      by_test true h = h
      by_test false h = tt

pub values_are_true : PrintedIsTrue → ValueTriplesPrint → PrintedValuesAreTrue
values_are_true is_true prints flags read = all_true is_true prints flags begin read.0
