use Rattle.std.proofs.Common.{refl}
use Rattle.event_forms.specs.ShapeView.{instance_seen}
use Rattle.events.specs.DefunInst.{instance_of, instance_plan}
use Rattle.events.proofs.Direct.{mapped_direct, none_claimed}
use Rattle.events.proofs.kinds.defun_inst.DefunInstKind.finish.Goals as goal

pub returns : goal.returns
returns c = none_claimed c.args._world.now _ (mapped_direct instance_plan (λ _. record { before = refl; after = refl }) (instance_of c.args._world.now (instance_seen c.args.self.now.instance))) c.args._plan.now c.requires.plan c.new.result c.new.ensures
