use Rattle.std.proofs.Common.{length}
use Rattle.plans.proofs.entries.+install.Given as goal

abbrev pub decreases-install : goal.decreases-install
decreases-install l = length l.entries.now
