use Rattle.proof_builders.proofs.DerivedRules.{symmetry_proves}
use Rattle.proof_builders.proofs.laws.symmetry_proves.Goals as goal

pub returns : goal.returns
returns c = symmetry_proves
