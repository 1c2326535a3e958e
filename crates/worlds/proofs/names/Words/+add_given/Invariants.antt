use Rattle.std.proofs.Common.{length}
use Rattle.worlds.proofs.names.Words.+add_given.Given as goal

abbrev pub decreases-add_given : goal.decreases-add_given
decreases-add_given l = length l.names.now
