use Rattle.std.proofs.Common.{◌≡◌}
use Rattle.events.proofs.FormalLemmas.{distinct_from}
use Rattle.events.proofs.definitions.check_distinct.Given as goal

abbrev pub invariant-loop-i : goal.invariant-loop-i
invariant-loop-i l = distinct_from l.names l.i ≡ distinct_from l.names 0
