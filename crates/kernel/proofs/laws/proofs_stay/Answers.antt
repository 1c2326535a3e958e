use Rattle.kernel.proofs.Later.{proofs_stay}
use Rattle.kernel.proofs.laws.proofs_stay.Goals as goal

pub returns : goal.returns
returns c = proofs_stay
