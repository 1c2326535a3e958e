use Rattle.std.proofs.Common.{sym, ap, ◌∙◌, subst}
use Rattle.std.specs.Option.{option_copied}
use Rattle.isodata_tool.specs.Parts.{AreParts}
use Rattle.isodata_tool.specs.view.Requests.{request_seen}
use Rattle.isodata_tool.proofs.Parted.{are_parts}
use Rattle.isodata_tool.proofs.finishing.finish.Goals as goal

pub claims-requires-clause-parts : goal.claims-requires-clause-parts
claims-requires-clause-parts c =
    let q = request_seen c.args.request.now in
    let d = c.in-Some.definition.now in
    subst (λ ms. AreParts c.args.world.now q d ms c.args.plan.now) (sym c.as_slice.ensures)
    (are_parts c.args.world.now c.soundness.ensures q c.args.plan.now c.requires.plan d (sym c.find_definition.ensures ∙ ap option_copied c.in-Some.is)
    c.in_ok-maps.maps c.in_ok-maps.ensures)
