use Rattle.event_forms.specs.ShapeView.{instance_seen}
use Rattle.events.proofs.LawfulInstances.{lawful_defthm_inst}
use Rattle.events.proofs.kinds.defthm_inst.DefthmInstKind.is_lawful.Goals as goal

pub returns : goal.returns
returns c = lawful_defthm_inst c.instances_hold.ensures (instance_seen c.args.self.now.instance)
