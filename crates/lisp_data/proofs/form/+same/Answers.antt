use Rattle.std.proofs.Common.{◌≡◌, ◌∙◌, sym, ap, subst, get_or, arith}
use Rattle.std.proofs.lemmas.List.{get_or_default}
use Rattle.lisp_data.specs.view.FormView.{form_of, IsProper, AllProper}
use Rattle.lisp_data.proofs.Same.{text-same, texts-alike, parts-alike, ends-alike, ends-apart, items-alike}
use Rattle.lisp_data.proofs.Proper.{proper-at}
use Rattle.lisp_data.proofs.form.+same.Goals as goal

pub Form::same-returns-in-Text-other-clause-only : goal.Form::same-returns-in-Text-other-clause-only
Form::same-returns-in-Text-other-clause-only t c = λ p q e.
    c.eq.ensures ∙ text-same _ _ (c.as_slice.ensures ∙ texts-alike c.args.self.now c.args.other.now c.in-Text.a c.in-Text-other.b c.in-Text.is c.in-Text-other.is e ∙ sym c.as_slice-in-Text-other.ensures)

pub Form::same-returns-then-same_all-clause-only : goal.Form::same-returns-then-same_all-clause-only
Form::same-returns-then-same_all-clause-only t c = λ p q e.
    let alike = parts-alike c.args.self.now c.args.other.now c.in-List.xs c.in-List-other.ys c.in-List.tail c.in-List-other.end c.in-List.is c.in-List-other.is p q e in
    c.same_end.ensures.only alike.tail alike.end alike.ends

pub Form::same-returns-else-same_all-clause-only : goal.Form::same-returns-else-same_all-clause-only
Form::same-returns-else-same_all-clause-only t c = λ p q e.
    let alike = parts-alike c.args.self.now c.args.other.now c.in-List.xs c.in-List-other.ys c.in-List.tail c.in-List-other.end c.in-List.is c.in-List-other.is p q e in
    let xs = c.as_slice-in-List-other.ensures in
    let ys = c.as_slice-in-List-other-2.ensures in
    c.same_all.ensures.only (subst AllProper (sym xs.items) alike.left) (subst AllProper (sym ys.items) alike.right) (xs.forms ∙ alike.items ∙ sym ys.forms)

pub same_all-returns-then-not-same-clause-only : goal.same_all-returns-then-not-same-clause-only
same_all-returns-then-not-same-clause-only t c = λ p q e.
    let i = c.loop-i.i in
    let x = c.index-xs-i in
    let y = c.index-ys-i in
    let first = proper-at c.args.xs.now i x.result c.loop-i-test.true p in
    let second = proper-at c.args.ys.now i y.result (omega arith) q in
    let same = items-alike c.args.xs.now c.args.ys.now i x.result c.loop-i-test.true (omega arith) e in
    let at : get_or c.args.ys.now i x.result ≡ y.result = get_or_default c.args.ys.now i x.result y.result (omega arith) ∙ sym y.is in
    let found = c.same.ensures.only (subst IsProper (sym x.is) first) (subst IsProper (sym y.is) second) (ap form_of x.is ∙ same ∙ ap form_of at) in
    sym c.if-not-same.true ∙ found

pub same_end-returns-in-None-clause-only : goal.same_end-returns-in-None-clause-only
same_end-returns-in-None-clause-only t c = λ p q e. ends-alike c.args.tail.now c.args.end.now c.is_none.result c.in-None.is q e c.is_none.ensures

pub same_end-returns-in-None-end-clause-only : goal.same_end-returns-in-None-end-clause-only
same_end-returns-in-None-end-clause-only t c = λ p q e. absurd (ends-apart c.args.tail.now c.args.end.now c.in-Some.a c.in-Some.is c.in-None-end.is p e)
