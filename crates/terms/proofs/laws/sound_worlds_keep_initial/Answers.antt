use Rattle.terms.proofs.Later.{sound_worlds_keep_initial}
use Rattle.terms.proofs.laws.sound_worlds_keep_initial.Goals as goal

pub returns : goal.returns
returns c = sound_worlds_keep_initial
