use Rattle.evaluator.specs.Counted.{evaluated}
use Rattle.evaluator.specs.view.Machines.{Stands, effort, weight_of}
use Rattle.evaluator.specs.view.Callees.{Knows}
use Rattle.evaluator.proofs.machine.run.Given as goal

abbrev pub invariant-loop-next : goal.invariant-loop-next
invariant-loop-next l = record {
  stands : Stands l.world.functions.defs l.machine l.control (evaluated l.world.functions.defs l.term);
  known : Knows l.world.functions.defs l.machine.callees;
}

abbrev pub decreases-loop-next : goal.decreases-loop-next
decreases-loop-next l = effort l.world.functions.defs l.machine (weight_of l.control)
