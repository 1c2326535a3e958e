use Rattle.event_forms.specs.ShapeView.{function_seen}
use Rattle.events.proofs.Lawful.{lawful_defun}
use Rattle.events.proofs.kinds.defun.DefunKind.is_lawful.Goals as goal

pub returns : goal.returns
returns c = lawful_defun c.translated_terms_fit.ensures c.args.self.now.order (function_seen c.args.self.now.function)
