use Rattle.std.proofs.Common.{◌∙◌, ◌-◌, length, cond, Some, None, [], ap, arith, sym, drop, length-drop}
use Rattle.lisp_reader.proofs.Book.{step-nothing, step-full, refuses, nothing-left, begins-room}
use Rattle.lisp_reader.proofs.reader.step.Goals as goal
use Rattle.lisp_data.specs.declared.code.Code.TheVariants.{BookTooLong}

pub returns-then-input-clause-says : goal.returns-then-input-clause-says
returns-then-input-clause-says c =
    let more = c.args.input.now.more in
    let xs = c.args.input.now.bytes.now in
    let token = c.next_token-token in
    let place = token.result.1 in
    let none = nothing-left (length xs - place) token.result.0 c.in-Nothing.is token.ensures.within in
    refuses more c.args.left xs _ _ BookTooLong place c.refused.ensures
    (step-nothing more c.args.left xs c.args.at place token.result.0 token.ensures.place token.ensures.token none token.ensures.inside
    ∙ ap (λ m. ([], cond m (Some (BookTooLong, place)) None)) c.if-input.true)

pub returns-else-input-clause-says : goal.returns-else-input-clause-says
returns-else-input-clause-says c =
    let more = c.args.input.now.more in
    let xs = c.args.input.now.bytes.now in
    let token = c.next_token-token in
    let place = token.result.1 in
    let none = nothing-left (length xs - place) token.result.0 c.in-Nothing.is token.ensures.within in
    step-nothing more c.args.left xs c.args.at place token.result.0 token.ensures.place token.ensures.token none token.ensures.inside
    ∙ ap (λ m. ([], cond m (Some (BookTooLong, place)) None)) c.if-input.false

pub returns-then-begins_form : goal.returns-then-begins_form
returns-then-begins_form c =
    let more = c.args.input.now.more in
    let xs = c.args.input.now.bytes.now in
    let token = c.next_token-token in
    let place = token.result.1 in
    let begins = sym c.begins_form.ensures ∙ c.if-begins_form.true in
    let room = begins-room more (drop place xs) begins in
    record {
      says = refuses more c.args.left xs _ _ BookTooLong place c.refused-then-begins_form.ensures
          (step-full more c.args.left xs c.args.at place token.result.0 token.ensures.place token.ensures.token c.if-left-eq0.true (omega (arith, room, length-drop place xs)) begins);
      proper = tt;
      within = tt;
    }
