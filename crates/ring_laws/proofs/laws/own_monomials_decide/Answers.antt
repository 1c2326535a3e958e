use Rattle.ring_laws.proofs.Soundness.{same_decides}
use Rattle.ring_laws.proofs.laws.own_monomials_decide.Goals as goal

pub returns : goal.returns
returns c = same_decides
