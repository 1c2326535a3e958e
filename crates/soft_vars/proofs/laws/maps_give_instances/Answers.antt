use Rattle.soft_vars.proofs.Maps.{maps_give_instances}
use Rattle.soft_vars.proofs.laws.maps_give_instances.Goals as goal

pub returns : goal.returns
returns c = maps_give_instances
