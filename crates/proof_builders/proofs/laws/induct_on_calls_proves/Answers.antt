use Rattle.proof_builders.proofs.Schemes.{induct_on_calls_proves}
use Rattle.proof_builders.proofs.laws.induct_on_calls_proves.Goals as goal

pub returns : goal.returns
returns c = induct_on_calls_proves
