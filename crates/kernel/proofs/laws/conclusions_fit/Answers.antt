use Rattle.kernel.proofs.Soundness.{conclusions_fit}
use Rattle.kernel.proofs.laws.conclusions_fit.Goals as goal

pub returns : goal.returns
returns c = conclusions_fit
