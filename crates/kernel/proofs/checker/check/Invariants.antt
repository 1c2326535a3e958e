use Rattle.std.proofs.Common.{◌<◌, ◌^◌}
use Rattle.kernel.specs.view.Checking.{Stands, checked, effort, weight}
use Rattle.kernel.proofs.checker.check.Given as goal

abbrev pub invariant-loop-next : goal.invariant-loop-next
invariant-loop-next l = record {
  stands : Stands l.world l.checker l.control l.proof (checked l.world l.proof 0);
  few : l.checker.nodes < 2 ^ 32;
}

abbrev pub decreases-loop-next : goal.decreases-loop-next
decreases-loop-next l = effort l.checker.frames.items (weight l.control)
