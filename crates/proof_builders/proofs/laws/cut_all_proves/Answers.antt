use Rattle.proof_builders.proofs.DerivedRules.{cut_all_proves}
use Rattle.proof_builders.proofs.laws.cut_all_proves.Goals as goal

pub returns : goal.returns
returns c = cut_all_proves
