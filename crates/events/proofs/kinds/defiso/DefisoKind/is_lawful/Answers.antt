use Rattle.event_forms.specs.ShapeView.{iso_seen}
use Rattle.events.proofs.LawfulIsomorphisms.{lawful_defiso}
use Rattle.events.proofs.kinds.defiso.DefisoKind.is_lawful.Goals as goal

pub returns : goal.returns
returns c = lawful_defiso (iso_seen c.args.self.now.iso)
