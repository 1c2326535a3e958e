use Rattle.std.proofs.Common.{rules, ◌≡◌, ap, sym, ◌∙◌, subst}
use Rattle.lisp_data.specs.FormView.{form_of}
use Rattle.hints.specs.Refused.{Says}
use Rattle.hints.specs.Steps.{cited_in, by_number}
use Rattle.hints.proofs.Through.{cited_in-int}
use Rattle.hints.proofs.reading.read_cited.Goals as goal

pub returns-in_err-cited-in-Int : goal.returns-in_err-cited-in-Int
returns-in_err-cited-in-Int c =
    let W = c.args.facts.now.world.now in
    let us = c.args.facts.now.universals.now in
    let p : cited_in W us (form_of c.args.form.now) ≡ by_number W c.in-Int.number =
    ap (λ f. cited_in W us (form_of f)) c.in-Int.is ∙ cited_in-int W us c.in-Int.number in
    subst (λ o. Says (λ x. x) o c.from_residual.result) (sym p) (search rules)
