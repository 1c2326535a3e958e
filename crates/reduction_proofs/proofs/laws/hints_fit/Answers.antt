use Rattle.reduction_proofs.proofs.Reading.{hints_fit}
use Rattle.reduction_proofs.proofs.laws.hints_fit.Goals as goal

pub returns : goal.returns
returns c = hints_fit
