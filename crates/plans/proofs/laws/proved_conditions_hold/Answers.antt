use Rattle.plans.proofs.ProvedHold.{proved_conditions_hold}
use Rattle.plans.proofs.laws.proved_conditions_hold.Goals as goal

pub returns : goal.returns
returns c = proved_conditions_hold
