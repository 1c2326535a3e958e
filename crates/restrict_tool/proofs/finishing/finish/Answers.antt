use Rattle.std.proofs.Common.{ap}
use Rattle.lisp_data.specs.ValueView.{val_of}
use Rattle.restrict_tool.specs.view.Requests.{request_seen}
use Rattle.restrict_tool.proofs.NewWorld.{counted, owed_before, admits, both, later, conditions_met, claimed_after}
use Rattle.restrict_tool.proofs.finishing.finish.Goals as goal

pub install_functions-requires : goal.install_functions-requires
install_functions-requires c =
    let parts = c.parts_of-parts.result in
    admits c.args.world.now c.soundness.ensures (request_seen c.args.request.now) c.requires.new parts.definition.now parts.restriction.now c.args.plan.now c.parts_of-parts.ensures.planned
    c.restriction_owes.ensures c.proved_conditions_hold.ensures c.as_slice.result.now c.as_slice.ensures

pub theorem-requires-clause-counted : goal.theorem-requires-clause-counted
theorem-requires-clause-counted c =
    let parts = c.parts_of-parts.result in
    counted c.args.world.now c.soundness.ensures (request_seen c.args.request.now) c.requires.new parts.definition.now parts.restriction.now c.args.plan.now c.parts_of-parts.ensures.planned

pub theorem-requires-clause-both : goal.theorem-requires-clause-both
theorem-requires-clause-both c =
    let parts = c.parts_of-parts.result in
    both c.args.world.now c.soundness.ensures (request_seen c.args.request.now) c.requires.new parts.definition.now parts.restriction.now c.args.plan.now c.parts_of-parts.ensures.planned
    c.in_ok-next.next c.as_slice.result.now c.as_slice.ensures c.in_ok-next.ensures parts.function.now c.parts_of-parts.ensures.function (val_of parts.undefined.now) (ap val_of c.parts_of-parts.ensures.undefined)

pub theorem-requires-clause-later : goal.theorem-requires-clause-later
theorem-requires-clause-later c =
    let parts = c.parts_of-parts.result in
    later c.args.world.now c.soundness.ensures (request_seen c.args.request.now) c.requires.new parts.definition.now parts.restriction.now c.args.plan.now c.parts_of-parts.ensures.planned
    c.in_ok-next.next c.as_slice.result.now c.as_slice.ensures c.in_ok-next.ensures parts.world.now c.parts_of-parts.ensures.world

pub theorem-requires-clause-proved : goal.theorem-requires-clause-proved
theorem-requires-clause-proved c =
    let parts = c.parts_of-parts.result in
    conditions_met c.args.world.now c.soundness.ensures (request_seen c.args.request.now) c.requires.new parts.definition.now parts.restriction.now c.args.plan.now c.parts_of-parts.ensures.planned
    c.args.proved.now c.requires.proved parts.world.now c.parts_of-parts.ensures.world
