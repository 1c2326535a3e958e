use Rattle.std.proofs.Common.{refl}
use Rattle.event_forms.specs.ShapeView.{instance_seen}
use Rattle.events.specs.DefthmInst.{theorem_instance, theorem_plan}
use Rattle.events.proofs.Direct.{mapped_direct, none_claimed}
use Rattle.events.proofs.kinds.defthm_inst.DefthmInstKind.finish.Goals as goal

pub returns : goal.returns
returns c = none_claimed c.args._world.now _ (mapped_direct (theorem_plan (instance_seen c.args.self.now.instance).name) (λ _. record { before = refl; after = refl }) (theorem_instance c.args._world.now (instance_seen c.args.self.now.instance))) c.args._plan.now c.requires.plan c.new.result c.new.ensures
