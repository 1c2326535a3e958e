use Rattle.std.proofs.Common.{ap, ◌∙◌}
use Rattle.isodata_tool.specs.Proofs.{falls_by}
use Rattle.isodata_tool.proofs.trees.falls_back.Goals as goal

pub returns : goal.returns
returns c =
    let p = c.args.parts.now in
    c.in_ok-falls.ensures ∙ ap (λ s. falls_by p.definition.now c.args.measure.now p.maps.now c.args.number s c.args.stays) c.in_ok-images.ensures.replaces
