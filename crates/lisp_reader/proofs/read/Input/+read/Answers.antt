use Rattle.std.proofs.Common.{◌∙◌, ◌+◌, ◌<◌, ◌∷◌, [], sym, ap, length, nat_lt, arith, length-append, true, subst, ◌-◌}
use Rattle.std.proofs.lemmas.Result.{err_from_is_err_and}
use Rattle.lisp_data.specs.Datum.{chain}
use Rattle.lisp_data.specs.FormView.{form_of, forms_of}
use Rattle.lisp_reader.specs.Grammar.{Got, mapped, quote_form}
use Rattle.lisp_reader.specs.view.TokenView.{seen, IsWithin}
use Rattle.lisp_reader.specs.declared.token.Token.{Token}
use Rattle.lisp_reader.proofs.Steps.{form-behind, says-same}
use Rattle.lisp_reader.proofs.Items.{list_at, list-item, list-point, tail-behind, tail-join, tail-form, mapped-place, mapped-fault, fault-same}
use Rattle.lisp_reader.proofs.read.Input.+read.Goals as goal
use Rattle.lisp_reader.specs.declared.limits.TheConstants.{MAX_NESTING}

pub list-returns-then-not-joins-clause-says : goal.list-returns-then-not-joins-clause-says
list-returns-then-not-joins-clause-says t c =
    let more = c.args.self.now.more in
    let xs = c.args.self.now.bytes.now in
    let fs = forms_of c.items.items in
    let point = c.next_token-token in
    let behind = c.next_token-token-in-Points in
    says-same _ _ _
    (sym c.items.invariant.left
    ∙ list-point more xs c.items.joined c.items.depth c.items.some fs c.items.next point.result.1 point.result.0 point.ensures.place point.ensures.token (sym c.in-Points.ensures)
    ∙ tail-behind more xs c.items.joined c.items.depth fs behind.result.1 behind.result.0 behind.ensures.token (point.result.1 + 1) behind.ensures.place)
    c.tail.ensures.says

pub list-items-preserved-in-Points : goal.list-items-preserved-in-Points
list-items-preserved-in-Points t c =
    let more = c.args.self.now.more in
    let xs = c.args.self.now.bytes.now in
    let fs = forms_of c.items.items in
    let point = c.next_token-token in
    let behind = c.next_token-token-in-Points in
    let joins = c.joins.ensures.0 c.if-not-joins.false in
    let room : 0 < length xs - behind.result.1 = subst (λ (t : Token). IsWithin (length xs - behind.result.1) (seen t)) joins.0 behind.ensures.within in
    record {
      left =
          sym (tail-join more xs c.items.joined c.items.depth fs behind.result.1 behind.result.0 behind.ensures.token joins.0 (omega arith) joins.1)
          ∙ sym (tail-behind more xs c.items.joined c.items.depth fs behind.result.1 behind.result.0 behind.ensures.token (point.result.1 + 1) behind.ensures.place)
          ∙ sym (list-point more xs c.items.joined c.items.depth c.items.some fs c.items.next point.result.1 point.result.0 point.ensures.place point.ensures.token (sym c.in-Points.ensures))
          ∙ c.items.invariant.left;
      proper = c.items.invariant.proper;
      first = λ h. cc;
      forward = omega arith;
      inside = omega arith;
      nested = omega arith;
      counted = omega arith;
      depth = omega (arith, joins.1);
    }

pub list-items-preserved : goal.list-items-preserved
list-items-preserved t c =
    let more = c.args.self.now.more in
    let xs = c.args.self.now.bytes.now in
    let fs = forms_of c.items.items in
    let item = c.next_token-token in
    let read = c.in_ok-form-in-Item in
    let pushed = c.in_ok-push-in-Item.ensures in
    record {
      left =
          ap (λ gs. list_at more xs c.items.joined c.items.depth true gs (read.last + 1)) pushed.ok
          ∙ sym (list-item more xs c.items.joined c.items.depth c.items.some fs c.items.next item.result.1 item.result.0 item.ensures.place item.ensures.token read.last (form_of read.form)
          (omega arith) (sym c.in-Item.ensures) read.ensures.says read.ensures.within.0 read.ensures.within.1)
          ∙ c.items.invariant.left;
      proper = pushed.proper c.items.invariant.proper read.ensures.proper;
      first = λ h. omega (arith, ap length pushed.ok, length-append fs (form_of read.form ∷ []));
      forward = omega (arith, read.ensures.within);
      inside = omega (arith, read.ensures.within);
      nested = omega arith;
      counted = omega arith;
      depth = omega arith;
    }

pub quoted-returns-in_err-form-clause-says : goal.quoted-returns-in_err-form-clause-says
quoted-returns-in_err-form-clause-says t c =
    let p = err_from_is_err_and c.from_residual.result c.from_residual.ensures.1 in
    let token = c.next_token-token in
    let depth = c.args.depth in
    rw (p.1, p.2)
    (fault-same quote_form _ _ _ (ap (mapped quote_form) (form-behind c.args.self.now.more (nat_lt 0 depth) (MAX_NESTING - depth) c.args.self.now.bytes.now c.args.at token.result.1 token.result.0 token.ensures.place token.ensures.token))
    c.in_err-form.ensures.says)

pub quoted-returns-clause-says : goal.quoted-returns-clause-says
quoted-returns-clause-says t c =
    let token = c.next_token-token in
    let depth = c.args.depth in
    ap (mapped quote_form) (form-behind c.args.self.now.more (nat_lt 0 depth) (MAX_NESTING - depth) c.args.self.now.bytes.now c.args.at token.result.1 token.result.0 token.ensures.place token.ensures.token ∙ c.in_ok-form.ensures.says)
    ∙ ap (λ f. Got f c.in_ok-form.last) (sym c.in_ok-quote_of.ensures.form)

pub tail-returns-in_err-end : goal.tail-returns-in_err-end
tail-returns-in_err-end t c =
    let p = err_from_is_err_and c.from_residual-in_err-end.result c.from_residual-in_err-end.ensures.1 in
    let f = form_of c.in_ok-form.form in
    rw (p.1, p.2) (record {
      says = mapped-fault (λ d. chain (forms_of c.args.items) f) _ _ _
          (tail-form c.args.self.now.more c.args.self.now.bytes.now c.args.joined c.args.depth (forms_of c.args.items) c.args.place c.args.token c.requires.token f c.in_ok-form.last
          c.in_default.not-Close c.requires.list c.in_ok-form.ensures.says)
          c.in_err-end.ensures.says;
      proper = tt;
      within = tt;
    })

pub tail-returns : goal.tail-returns
tail-returns t c =
    let f = form_of c.in_ok-form.form in
    record {
      says =
          mapped-place (λ d. chain (forms_of c.args.items) f) _ _ _
          (tail-form c.args.self.now.more c.args.self.now.bytes.now c.args.joined c.args.depth (forms_of c.args.items) c.args.place c.args.token c.requires.token f c.in_ok-form.last
          c.in_default.not-Close c.requires.list c.in_ok-form.ensures.says)
          c.in_ok-end.ensures.says
          ∙ ap (λ g. Got g c.in_ok-end.end) (sym c.in_ok-dotted.ensures.form);
      proper = λ a b. c.in_ok-dotted.ensures.proper a b c.in_ok-form.ensures.proper;
      within = (omega (arith, c.in_ok-form.ensures.within, c.in_ok-end.ensures.within), c.in_ok-end.ensures.within.1);
    }
