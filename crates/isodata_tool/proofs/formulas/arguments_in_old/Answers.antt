use Rattle.std.proofs.Common.{ap, ◌∙◌}
use Rattle.terms.specs.Links.{conjunction}
use Rattle.isodata_tool.specs.Carried.{all_in_old}
use Rattle.isodata_tool.proofs.formulas.arguments_in_old.Goals as goal

pub returns : goal.returns
returns c = c.in_ok-term.ensures ∙ ap (λ s. conjunction (all_in_old c.args.maps.now s)) c.in_ok-images.ensures.replaces
