use Rattle.terms.proofs.Growth.{flat_stays_total}
use Rattle.terms.proofs.laws.flat_definitions_stay_total.Goals as goal

pub returns : goal.returns
returns c = flat_stays_total
