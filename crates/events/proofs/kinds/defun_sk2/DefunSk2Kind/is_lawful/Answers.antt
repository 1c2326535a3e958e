use Rattle.event_forms.specs.ShapeView.{specification_seen}
use Rattle.events.proofs.Lawful.{lawful_defun_sk2}
use Rattle.events.proofs.kinds.defun_sk2.DefunSk2Kind.is_lawful.Goals as goal

pub returns : goal.returns
returns c = lawful_defun_sk2 c.translated_terms_fit.ensures (specification_seen c.args.self.now.specification)
