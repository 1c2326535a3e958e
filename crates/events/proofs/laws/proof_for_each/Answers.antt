use Rattle.events.proofs.Counted.{proof_for_each}
use Rattle.events.proofs.laws.proof_for_each.Goals as goal

pub returns : goal.returns
returns c = proof_for_each
