use Rattle.events.proofs.Accepted.{accepted_is_sound}
use Rattle.events.proofs.laws.accepted_is_sound.Goals as goal

pub returns : goal.returns
returns c = accepted_is_sound c.hints_fit.ensures c.reductions_prove.ensures
