use Rattle.std.proofs.Common.{refl}
use Rattle.event_forms.specs.ShapeView.{iso_seen}
use Rattle.events.specs.Defiso.{iso, checked_iso, iso_plan}
use Rattle.events.proofs.Direct.{mapped_direct, none_claimed}
use Rattle.events.proofs.kinds.defiso.DefisoKind.finish.Goals as goal

pub returns : goal.returns
returns c = none_claimed c.args._world.now _ (mapped_direct iso_plan (λ _. record { before = refl; after = refl }) (checked_iso c.args._world.now (iso (iso_seen c.args.self.now.iso)))) c.args._plan.now c.requires.plan c.new.result c.new.ensures
