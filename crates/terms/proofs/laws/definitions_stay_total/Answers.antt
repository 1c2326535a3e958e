use Rattle.terms.proofs.Totality.{stays_total}
use Rattle.terms.proofs.laws.definitions_stay_total.Goals as goal

pub returns : goal.returns
returns c = stays_total
