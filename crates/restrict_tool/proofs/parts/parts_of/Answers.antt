use Rattle.std.proofs.Common.{◌∙◌, sym, ap}
use Rattle.std.specs.Option.{option_copied}
use Rattle.restrict_tool.specs.view.Requests.{request_seen}
use Rattle.restrict_tool.proofs.Parted.{has_restriction, are_parts}
use Rattle.restrict_tool.proofs.parts.parts_of.Goals as goal

pub restriction_of-requires : goal.restriction_of-requires
restriction_of-requires c = has_restriction c.args.world.now c.soundness.ensures (request_seen c.args.request.now) c.args.plan.now c.requires

pub returns-clause-planned : goal.returns-clause-planned
returns-clause-planned c =
    are_parts c.args.world.now c.soundness.ensures (request_seen c.args.request.now) c.args.plan.now c.requires c.in-Some.definition.now
    (sym c.find_definition.ensures ∙ ap option_copied c.in-Some.is) c.restriction_of.result.now c.restriction_of.ensures
