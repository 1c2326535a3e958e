use Rattle.proof_builders.proofs.Among.{among_proves}
use Rattle.proof_builders.proofs.laws.among_proves.Goals as goal

pub returns : goal.returns
returns c = among_proves
