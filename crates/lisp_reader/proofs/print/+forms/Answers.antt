use Rattle.std.proofs.Common.{◌∙◌, ◌++◌, ◌∷◌, [], cond, nat_lt, sym, ap, subst}
use Rattle.std.proofs.lemmas.Result.{on_ok_weaker}
use Rattle.lisp_data.specs.FormView.{form_of, end_of}
use Rattle.lisp_reader.specs.Printed.{form_text, IsPrintable, ArePrintable}
use Rattle.lisp_reader.proofs.Prints.{text-sym, none-text, none-printable, empty-form, list-printable, more-text, more-printable}
use Rattle.lisp_reader.proofs.print.+forms.Goals as goal

pub write_end-returns-in-None-clause-ok : goal.write_end-returns-in-None-clause-ok
write_end-returns-in-None-clause-ok t c = on_ok_weaker c.push.result (λ e. e ∙ ap (λ r. c.args.out.now ++ r) (sym (none-text c.args.tail.now c.in-None.is))) c.push.ensures.ok

pub write_end-returns-in-None-clause-printable : goal.write_end-returns-in-None-clause-printable
write_end-returns-in-None-clause-printable t c = on_ok_weaker c.push.result (λ e. none-printable c.args.tail.now c.in-None.is) c.push.ensures.ok

pub write_form-returns-in-None-clause-ok : goal.write_form-returns-in-None-clause-ok
write_form-returns-in-None-clause-ok t c =
    let same = empty-form c.args.form.now c.in-List.items c.in-List.tail c.in-List.is (sym c.len.ensures ∙ c.if-len-eq0.true) ∙ ap end_of c.in-None.is in
    on_ok_weaker c.extend-in-None.result (λ e. e ∙ ap (λ r. c.args.out.now ++ r) (sym (ap form_text same ∙ text-sym _))) c.extend-in-None.ensures.ok

pub write_form-returns-in-None-clause-printable : goal.write_form-returns-in-None-clause-printable
write_form-returns-in-None-clause-printable t c =
    let same = empty-form c.args.form.now c.in-List.items c.in-List.tail c.in-List.is (sym c.len.ensures ∙ c.if-len-eq0.true) in
    on_ok_weaker c.extend-in-None.result (λ e. subst IsPrintable (sym same) (none-printable c.in-List.tail c.in-None.is)) c.extend-in-None.ensures.ok

pub write_form-returns-in-Some-clause-ok : goal.write_form-returns-in-Some-clause-ok
write_form-returns-in-Some-clause-ok t c =
    let same = empty-form c.args.form.now c.in-List.items c.in-List.tail c.in-List.is (sym c.len.ensures ∙ c.if-len-eq0.true) ∙ ap end_of c.in-Some.is ∙ ap form_of (sym c.deref.ensures) in
    on_ok_weaker c.write_form.result (λ e. e ∙ ap (λ f. c.args.out.now ++ form_text f) (sym same)) c.write_form.ensures.ok

pub write_form-returns-in-Some-clause-printable : goal.write_form-returns-in-Some-clause-printable
write_form-returns-in-Some-clause-printable t c =
    let same = empty-form c.args.form.now c.in-List.items c.in-List.tail c.in-List.is (sym c.len.ensures ∙ c.if-len-eq0.true) ∙ ap end_of c.in-Some.is ∙ ap form_of (sym c.deref.ensures) in
    on_ok_weaker c.write_form.result (λ p. subst IsPrintable (sym same) p) c.write_form.ensures.printable

pub write_form-returns-in_ok-write_items-in-List-clause-printable : goal.write_form-returns-in_ok-write_items-in-List-clause-printable
write_form-returns-in_ok-write_items-in-List-clause-printable t c =
    let items = subst ArePrintable c.as_slice-in-List.ensures.forms c.in_ok-write_items-in-List.ensures.printable in
    on_ok_weaker c.write_end.result (λ p. list-printable c.args.form.now c.in-List.items c.in-List.tail c.in-List.is items p) c.write_end.ensures.printable

pub write_items-loop-i-preserved : goal.write_items-loop-i-preserved
write_items-loop-i-preserved t c =
    let item = c.index-items-i in
    record {
      written =
          c.in_ok-write_form.ensures.ok
          ∙ more-text c.args.items.now c.loop-i.i item.result c.loop-i-test.true item.is c.args.out.now c.write_blank.new.out
          (c.in_ok-write_blank.ensures.ok ∙ ap (λ o. o ++ cond (nat_lt 0 c.loop-i.i) (32 ∷ []) []) c.loop-i.invariant.written);
      printable = more-printable c.args.items.now c.loop-i.i item.result c.loop-i-test.true item.is c.loop-i.invariant.printable c.in_ok-write_form.ensures.printable;
    }

pub write_rest-returns-in_ok-write_items-in-List-clause-printable : goal.write_rest-returns-in_ok-write_items-in-List-clause-printable
write_rest-returns-in_ok-write_items-in-List-clause-printable t c =
    let items = subst ArePrintable c.as_slice-in-List.ensures.forms c.in_ok-write_items-in-List.ensures.printable in
    on_ok_weaker c.write_end.result (λ p. list-printable c.args.form.now c.in-List.items c.in-List.tail c.in-List.is items p) c.write_end.ensures.printable
