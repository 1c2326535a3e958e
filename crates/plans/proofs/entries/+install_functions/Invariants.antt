use Rattle.std.proofs.Common.{length}
use Rattle.plans.proofs.entries.+install_functions.Given as goal

abbrev pub decreases-install_functions : goal.decreases-install_functions
decreases-install_functions l = length l.entries.now
