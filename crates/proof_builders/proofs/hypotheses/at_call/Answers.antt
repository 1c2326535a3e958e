use Rattle.std.proofs.Common.{ap, ◌∙◌}
use Rattle.terms.specs.Terms.{substitute}
use Rattle.proof_builders.proofs.hypotheses.at_call.Goals as goal

pub returns : goal.returns
returns c = c.in_ok-image.ensures ∙ ap (λ s. substitute s c.args.term.now) c.in_ok-images.ensures.replaces
