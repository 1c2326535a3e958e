use Rattle.reduction_proofs.proofs.Reduced.{steps_prove}
use Rattle.reduction_proofs.proofs.laws.steps_prove.Goals as goal

pub returns : goal.returns
returns c = steps_prove
