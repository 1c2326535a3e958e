use Rattle.proof_builders.proofs.DerivedRules.{and_in_all_proves}
use Rattle.proof_builders.proofs.laws.and_in_all_proves.Goals as goal

pub returns : goal.returns
returns c = and_in_all_proves
