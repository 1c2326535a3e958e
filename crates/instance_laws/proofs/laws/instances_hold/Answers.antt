use Rattle.instance_laws.proofs.Sequents.{instances_hold}
use Rattle.instance_laws.proofs.laws.instances_hold.Goals as goal

pub returns : goal.returns
returns c = instances_hold
