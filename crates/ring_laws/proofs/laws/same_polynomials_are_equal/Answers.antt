use Rattle.ring_laws.proofs.Soundness.{ring_law}
use Rattle.ring_laws.proofs.laws.same_polynomials_are_equal.Goals as goal

pub returns : goal.returns
returns c = ring_law
