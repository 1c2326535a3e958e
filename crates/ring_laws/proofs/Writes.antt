-- One piece of what a hash reads after another.
use Rattle.std.proofs.Common.{◌≡◌, ℕ, List, ◌++◌, fold}
use Rattle.std.proofs.lemmas.List.Sums.{fold-append}
use Rattle.terms.proofs.Args.{depth-get_or, tms-drop, tm_list-tms}

pub ruleset writes = (fold-append, depth-get_or, tms-drop)
