use Rattle.proof_builders.proofs.DerivedRules.{transitivity_proves}
use Rattle.proof_builders.proofs.laws.transitivity_proves.Goals as goal

pub returns : goal.returns
returns c = transitivity_proves
