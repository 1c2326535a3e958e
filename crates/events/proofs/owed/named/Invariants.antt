use Rattle.std.proofs.Common.{◌≡◌, ◌+◌, ◌++◌, drop}
use Rattle.events.specs.Defun.{decreases, measure_conditions}
use Rattle.events.proofs.owed.named.Given as goal

abbrev pub invariant-loop-i : goal.invariant-loop-i
invariant-loop-i l = l.conditions ++ decreases (l.i + 1) (drop l.i l.rest) ≡ measure_conditions l.owed
