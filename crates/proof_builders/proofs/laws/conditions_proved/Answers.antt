use Rattle.proof_builders.proofs.Among.{conditions_proved}
use Rattle.proof_builders.proofs.laws.conditions_proved.Goals as goal

pub returns : goal.returns
returns c = conditions_proved
