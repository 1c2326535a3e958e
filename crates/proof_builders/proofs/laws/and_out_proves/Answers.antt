use Rattle.proof_builders.proofs.DerivedRules.{and_out_proves}
use Rattle.proof_builders.proofs.laws.and_out_proves.Goals as goal

pub returns : goal.returns
returns c = and_out_proves
