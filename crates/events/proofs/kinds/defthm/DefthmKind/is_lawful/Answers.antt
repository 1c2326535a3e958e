use Rattle.event_forms.specs.ShapeView.{theorem_seen}
use Rattle.events.proofs.Lawful.{lawful_defthm}
use Rattle.events.proofs.kinds.defthm.DefthmKind.is_lawful.Goals as goal

pub returns : goal.returns
returns c = lawful_defthm c.translated_terms_fit.ensures (theorem_seen c.args.self.now.theorem)
