use Rattle.std.proofs.Common.{refl}
use Rattle.event_forms.specs.ShapeView.{function_seen}
use Rattle.events.specs.Definitions.{definition_of}
use Rattle.events.specs.Defun.{function_plan}
use Rattle.events.proofs.Direct.{mapped_direct, none_claimed}
use Rattle.events.proofs.kinds.defun.DefunKind.finish.Goals as goal

pub returns : goal.returns
returns c = none_claimed c.args._world.now _ (mapped_direct function_plan (λ _. record { before = refl; after = refl }) (definition_of c.args._world.now c.args.self.now.order (function_seen c.args.self.now.function))) c.args._plan.now c.requires.plan c.new.result c.new.ensures
