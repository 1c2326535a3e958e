use Rattle.std.proofs.Common.{length}
use Rattle.worlds.proofs.names.Words.+add_primitives.Given as goal

abbrev pub decreases-add_primitives : goal.decreases-add_primitives
decreases-add_primitives l = length l.table.now
