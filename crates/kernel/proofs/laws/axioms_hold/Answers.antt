use Rattle.kernel.proofs.Soundness.{axioms_hold}
use Rattle.kernel.proofs.laws.axioms_hold.Goals as goal

pub returns : goal.returns
returns c = axioms_hold
