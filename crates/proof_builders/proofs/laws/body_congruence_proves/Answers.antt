use Rattle.proof_builders.proofs.Bodies.{body_congruence_proves}
use Rattle.proof_builders.proofs.laws.body_congruence_proves.Goals as goal

pub returns : goal.returns
returns c = body_congruence_proves
