use Rattle.std.proofs.Common.{ap, ◌∙◌}
use Rattle.terms.specs.Substitution.{by_pairs}
use Rattle.terms.specs.Terms.{substitute}
use Rattle.isodata_tool.proofs.Mapping.{backs-by}
use Rattle.isodata_tool.proofs.formulas.on_old.Goals as goal

pub returns : goal.returns
returns c =
    c.in_ok-image.ensures ∙ ap (λ s. substitute (by_pairs s) c.args.term.now) c.requires
    ∙ ap (λ s. substitute s c.args.term.now) (backs-by c.args.maps.now)
