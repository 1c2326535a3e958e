use Rattle.std.proofs.Common.{refl}
use Rattle.event_forms.specs.ShapeView.{variable_seen}
use Rattle.events.specs.Defunvar.{variable_plan}
use Rattle.events.proofs.Direct.{one_direct, none_claimed}
use Rattle.events.proofs.kinds.defunvar.DefunvarKind.finish.Goals as goal

pub returns : goal.returns
returns c = none_claimed c.args._world.now _ (let v = variable_seen c.args.self.now.variable in one_direct (variable_plan v.name v.arity) (record { before = refl; after = refl })) c.args._plan.now c.requires.plan c.new.result c.new.ensures
