use Rattle.std.proofs.Common.{sym, subst}
use Rattle.lisp_data.specs.FormView.{IsProper}
use Rattle.event_forms.specs.ShapeView.{restrict_seen}
use Rattle.restrict_tool.specs.Restrictions.{AreNew}
use Rattle.events.proofs.LawfulRestrictions.{are_new}
use Rattle.events.proofs.kinds.restrict.RestrictKind.plan.Goals as goal

pub plan-requires-clause-proper : goal.plan-requires-clause-proper
plan-requires-clause-proper c = subst IsProper (sym c.request-request.ensures.form) c.requires.proper.restriction

pub plan-requires-clause-new : goal.plan-requires-clause-new
plan-requires-clause-new c =
    subst (AreNew c.args.world.now) (sym c.request-request.ensures.seen)
    (are_new c.args.world.now (restrict_seen c.args.self.now.restriction) c.requires.names)
