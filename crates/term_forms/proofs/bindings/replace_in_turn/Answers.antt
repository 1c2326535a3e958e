use Rattle.std.proofs.Common.{◌≡◌, ◌+◌, ◌-◌, ℕ, [], take, drop, Err, ap, ◌∙◌, arith}
use Rattle.lisp_data.specs.Values.{Name}
use Rattle.terms.specs.Terms.{Tm}
use Rattle.terms.specs.Substitution.{Pairs}
use Rattle.term_forms.specs.Translation.{limited}
use Rattle.term_forms.specs.view.TranslationView.{SaysOutcome}
use Rattle.term_forms.specs.Words.{folded}
use Rattle.term_forms.specs.Bindings.{replaced_by}
use Rattle.term_forms.proofs.InTurn.{step-refused, step-taken}
use Rattle.term_forms.proofs.bindings.replace_in_turn.Goals as goal

one : (ps : Pairs) (i : ℕ) → take (i + 1 - i) (drop i ps) ≡ take 1 (drop i ps)
one ps i = ap (λ k. take k (drop i ps)) (let e : i + 1 - i ≡ 1 = omega arith in e)

pub images-preserved : goal.images-preserved
images-preserved c =
    let ps : Pairs = c.args.images.now in
    let d : Name × Tm = ([], c.args.term) in
    let i = c.images.i - 1 in
    record {
      term = step-taken ps i c.images.i d (take (i + 1 - i) (drop i ps)) c.term.result.now (folded replaced_by ps c.args.term) (omega arith) (omega arith) (one ps i)
          (ap (folded replaced_by (take c.images.i ps)) c.term.ensures ∙ c.images.invariant.term) c.in_ok-replaced.replaced c.in_ok-replaced.ensures;
      inside = omega arith;
    }

pub returns-in_err-replaced : goal.returns-in_err-replaced
returns-in_err-replaced c =
    let ps : Pairs = c.args.images.now in
    let d : Name × Tm = ([], c.args.term) in
    let i = c.images.i - 1 in
    let says : SaysOutcome {A = Tm} (limited (folded replaced_by ps c.args.term)) (Err c.in_err-replaced.field-0.0) =
    step-refused ps i c.images.i d (take (i + 1 - i) (drop i ps)) c.term.result.now (folded replaced_by ps c.args.term) (omega arith) (omega arith) (one ps i)
    (ap (folded replaced_by (take c.images.i ps)) c.term.ensures ∙ c.images.invariant.term) c.in_err-replaced.field-0.0 c.in_err-replaced.ensures in
    grind arith
