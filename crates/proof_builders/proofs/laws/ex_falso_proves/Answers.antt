use Rattle.proof_builders.proofs.DerivedRules.{ex_falso_proves}
use Rattle.proof_builders.proofs.laws.ex_falso_proves.Goals as goal

pub returns : goal.returns
returns c = ex_falso_proves
