use Rattle.instance_laws.proofs.Grow.{worlds_grow_by_instances}
use Rattle.instance_laws.proofs.laws.worlds_grow_by_instances.Goals as goal

pub returns : goal.returns
returns c = worlds_grow_by_instances
