use Rattle.event_forms.specs.ShapeView.{instance_seen}
use Rattle.events.proofs.LawfulInstances.{lawful_defun_inst}
use Rattle.events.proofs.kinds.defun_inst.DefunInstKind.is_lawful.Goals as goal

pub returns : goal.returns
returns c =
    lawful_defun_inst c.instances_owe.ensures c.instances_hold.ensures c.worlds_grow_by_instances.ensures (instance_seen c.args.self.now.instance)
