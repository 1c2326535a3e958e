use Rattle.std.proofs.Common.{refl}
use Rattle.event_forms.specs.ShapeView.{specification_seen}
use Rattle.events.specs.DefunSk2.{specification_of, specification_plan}
use Rattle.events.proofs.Direct.{mapped_direct, none_claimed}
use Rattle.events.proofs.kinds.defun_sk2.DefunSk2Kind.finish.Goals as goal

pub returns : goal.returns
returns c = none_claimed c.args._world.now _ (mapped_direct specification_plan (λ _. record { before = refl; after = refl }) (specification_of c.args._world.now (specification_seen c.args.self.now.specification))) c.args._plan.now c.requires.plan c.new.result c.new.ensures
