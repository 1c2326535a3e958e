use Rattle.std.proofs.Common.{◌∙◌, ◌++◌, ◌∷◌, [], sym, ap, subst}
use Rattle.std.proofs.lemmas.List.{map_more}
use Rattle.lisp_data.specs.view.FormView.{form_of, IsProper}
use Rattle.lisp_data.proofs.Proper.{proper-parts, some-copied, proper-end, proper-more}
use Rattle.lisp_data.proofs.form.+copy.Goals as goal

pub Form::copy-returns-in-None-clause-proper : goal.Form::copy-returns-in-None-clause-proper
Form::copy-returns-in-None-clause-proper t c = λ p.
    let list = subst IsProper c.in-List.is p in
    let items = c.in_ok-items-in-List in
    c.list.ensures.proper (items.ensures.proper (proper-parts _ _ list)) (some-copied _ items.items _ items.ensures.forms list)

pub Form::copy-returns-in_ok-form-in-Some-clause-proper : goal.Form::copy-returns-in_ok-form-in-Some-clause-proper
Form::copy-returns-in_ok-form-in-Some-clause-proper t c = λ p.
    let list = subst IsProper c.in-List.is p in
    let items = c.in_ok-items-in-List in
    let end = subst IsProper (sym c.deref.ensures) (proper-end _ _ _ c.in-Some.is list) in
    c.in_ok-form-in-Some.ensures.proper (items.ensures.proper (proper-parts _ _ list)) (some-copied _ items.items _ items.ensures.forms list) (c.in_ok-tail-in-Some.ensures.proper end)

pub Forms::copy-loop-item-preserved : goal.Forms::copy-loop-item-preserved
Forms::copy-loop-item-preserved t c =
    let i = c.loop-item.item-index in
    let xs = c.deref-item-items.result.now in
    let item = c.item-item in
    let copied = c.in_ok-copy.ensures.form ∙ ap form_of item.is in
    record {
      copied = c.in_ok-push.ensures.ok ∙ (λ j. c.loop-item.invariant.copied j ++ copied j ∷ []) ∙ sym (map_more form_of xs i item.result c.loop-item-test.true);
      proper = λ p. c.in_ok-push.ensures.proper (c.loop-item.invariant.proper p) (c.in_ok-copy.ensures.proper (proper-more xs i item.result c.loop-item-test.true item.is p));
    }
