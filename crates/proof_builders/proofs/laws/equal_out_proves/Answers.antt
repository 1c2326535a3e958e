use Rattle.proof_builders.proofs.DerivedRules.{equal_out_proves}
use Rattle.proof_builders.proofs.laws.equal_out_proves.Goals as goal

pub returns : goal.returns
returns c = equal_out_proves
