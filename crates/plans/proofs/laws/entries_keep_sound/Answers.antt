use Rattle.plans.proofs.EntriesSound.{entries_keep_sound}
use Rattle.plans.proofs.laws.entries_keep_sound.Goals as goal

pub returns : goal.returns
returns c = entries_keep_sound
