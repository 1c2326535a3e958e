use Rattle.std.proofs.Common.{refl}
use Rattle.plans.specs.Plans.{no_plan}
use Rattle.events.proofs.Direct.{one_direct, none_claimed}
use Rattle.events.proofs.kinds.include_book.IncludeBookKind.finish.Goals as goal

pub returns : goal.returns
returns c = none_claimed c.args._world.now _ (one_direct no_plan (record { before = refl; after = refl })) c.args._plan.now c.requires.plan c.new.result c.new.ensures
