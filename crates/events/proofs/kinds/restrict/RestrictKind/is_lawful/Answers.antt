use Rattle.event_forms.specs.ShapeView.{restrict_seen}
use Rattle.events.proofs.LawfulRestrictions.{lawful_restrict}
use Rattle.events.proofs.kinds.restrict.RestrictKind.is_lawful.Goals as goal

pub returns : goal.returns
returns c = lawful_restrict c.restrictions_are_lawful.ensures (restrict_seen c.args.self.now.restriction)
