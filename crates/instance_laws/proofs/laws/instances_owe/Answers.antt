use Rattle.instance_laws.proofs.Owes.{instances_owe}
use Rattle.instance_laws.proofs.laws.instances_owe.Goals as goal

pub returns : goal.returns
returns c = instances_owe
