use Rattle.std.proofs.Common.{sym, subst}
use Rattle.event_forms.specs.ShapeView.{restrict_seen}
use Rattle.restrict_tool.specs.Restrictions.{AreNew}
use Rattle.events.proofs.LawfulRestrictions.{are_new}
use Rattle.events.proofs.kinds.restrict.RestrictKind.finish.Goals as goal

pub finish-requires-clause-new : goal.finish-requires-clause-new
finish-requires-clause-new c =
    subst (AreNew c.args.world.now) (sym c.request-request.ensures.seen)
    (are_new c.args.world.now (restrict_seen c.args.self.now.restriction) c.requires.names)
