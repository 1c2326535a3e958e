use Rattle.std.proofs.Common.{sym, subst}
use Rattle.terms.specs.Worlds.{Instance}
use Rattle.terms.specs.Instances.{IsRecorded}
use Rattle.terms.specs.Sound.{instance_of}
use Rattle.plans.proofs.entries.with_new_instance.Goals as goal

pub with_instance-requires : goal.with_instance-requires
with_instance-requires c =
    subst (λ (r : Instance). IsRecorded c.args.world.now r)
    (λ i. instance_of (sym c.in_ok-of.ensures i) (sym c.in_ok-pairs.ensures i) (sym c.in_ok-instance.ensures i))
    c.requires
