use Rattle.restrict_tool.specs.view.Requests.{request_seen}
use Rattle.restrict_tool.proofs.Planned.{counted_old, counted_new}
use Rattle.restrict_tool.proofs.planning.plan.Goals as goal

pub planned-requires-clause-old : goal.planned-requires-clause-old
planned-requires-clause-old c =
    counted_old c.args.world.now c.soundness.ensures (request_seen c.args.request.now).old c.in_ok-definition.definition.now c.in_ok-definition.ensures.found

pub planned-requires-clause-new : goal.planned-requires-clause-new
planned-requires-clause-new c =
    counted_new c.args.world.now c.soundness.ensures (request_seen c.args.request.now) c.requires.new c.in_ok-definition.definition.now c.in_ok-definition.ensures.found
    c.in_ok-restriction.restriction c.in_ok-restriction.ensures
