use Rattle.std.proofs.Common.{◌≡◌, IsOk, Ok, refl, sym, ◌∙◌, subst}
use Rattle.event_forms.specs.ShapeView.{isodata_seen}
use Rattle.isodata_tool.specs.Isomorphic.{AreNew, plan_of}
use Rattle.events.specs.Isodata.{request, isodata_plan}
use Rattle.events.proofs.Inversions.{coded_ok}
use Rattle.events.proofs.LawfulIsodata.{are_new, maps_read, same_maps}
use Rattle.events.proofs.kinds.isodata.IsodataKind.finish.Goals as goal

pub maps_again-requires-clause-read : goal.maps_again-requires-clause-read
maps_again-requires-clause-read c =
    let p = isodata_seen c.args.self.now.representation in
    let m = maps_read c.args.world.now p c.args.plan.now (coded_ok (isodata_plan c.args.world.now p) c.args.plan.now c.requires.plan) in
    subst IsOk (sym m.1) refl

pub finish-requires-clause-new : goal.finish-requires-clause-new
finish-requires-clause-new c =
    subst (AreNew c.args.world.now) (sym c.request-request.ensures)
    (are_new c.args.world.now (isodata_seen c.args.self.now.representation) c.requires.names c.as_slice.result.now)

pub finish-requires-clause-plan : goal.finish-requires-clause-plan
finish-requires-clause-plan c =
    let p = isodata_seen c.args.self.now.representation in
    let m = maps_read c.args.world.now p c.args.plan.now (coded_ok (isodata_plan c.args.world.now p) c.args.plan.now c.requires.plan) in
    subst (λ q. plan_of c.args.world.now q ≡ Ok c.args.plan.now) (sym c.request-request.ensures)
    (subst (λ maps. plan_of c.args.world.now (request p maps) ≡ Ok c.args.plan.now) (same_maps m.1 c.in_ok-maps.ensures ∙ sym c.as_slice.ensures) m.2)
