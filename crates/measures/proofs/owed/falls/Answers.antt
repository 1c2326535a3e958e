use Rattle.std.proofs.Common.{ap, ◌∙◌, codes}
use Rattle.terms.specs.Terms.{substitute}
use Rattle.terms.specs.Measures.{call2}
use Rattle.measures.proofs.owed.falls.Goals as goal

pub returns : goal.returns
returns c =
    let measure = c.args.measure.now in
    let then = c.in_ok-then.ensures ∙ ap (λ s. substitute s measure) c.in_ok-images.ensures.replaces in
    λ i. record {
      universals = c.new.ensures i;
      hyps = c.in_ok-without_repeats.ensures i;
      goal = (c.in_ok-goal.ensures ∙ (λ j. call2 (codes "<") (then j) (c.in_ok-share.ensures j))) i;
    }
