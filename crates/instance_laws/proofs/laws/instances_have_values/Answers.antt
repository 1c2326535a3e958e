use Rattle.instance_laws.proofs.Values.{instances_have_values}
use Rattle.instance_laws.proofs.laws.instances_have_values.Goals as goal

pub returns : goal.returns
returns c = instances_have_values
