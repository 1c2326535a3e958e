use Rattle.std.proofs.Common.{◌≡◌, ◌++◌, drop}
use Rattle.kernel.proofs.sequents.appended.Given as goal

abbrev pub invariant-loop-term : goal.invariant-loop-term
invariant-loop-term l = l.all ++ drop l.term-index l.second ≡ l.first ++ l.second
