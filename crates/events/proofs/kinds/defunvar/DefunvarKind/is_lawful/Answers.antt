use Rattle.event_forms.specs.ShapeView.{variable_seen}
use Rattle.events.proofs.Lawful.{lawful_defunvar}
use Rattle.events.proofs.kinds.defunvar.DefunvarKind.is_lawful.Goals as goal

pub returns : goal.returns
returns c = lawful_defunvar (variable_seen c.args.self.now.variable)
