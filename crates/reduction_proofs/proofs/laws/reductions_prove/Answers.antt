use Rattle.reduction_proofs.proofs.Start.{reductions_prove}
use Rattle.reduction_proofs.proofs.laws.reductions_prove.Goals as goal

pub returns : goal.returns
returns c = reductions_prove
