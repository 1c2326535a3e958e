use Rattle.std.proofs.Common.{sym, subst}
use Rattle.event_forms.specs.ShapeView.{isodata_seen}
use Rattle.isodata_tool.specs.Isomorphic.{AreNew}
use Rattle.events.proofs.LawfulIsodata.{are_new}
use Rattle.events.proofs.kinds.isodata.IsodataKind.plan.Goals as goal

pub plan-requires : goal.plan-requires
plan-requires c =
    subst (AreNew c.args.world.now) (sym c.request-request.ensures)
    (are_new c.args.world.now (isodata_seen c.args.self.now.representation) c.requires.names c.as_slice.result.now)
