use Rattle.instance_laws.proofs.Grow.{records_stay}
use Rattle.instance_laws.proofs.laws.records_stay.Goals as goal

pub returns : goal.returns
returns c = records_stay
