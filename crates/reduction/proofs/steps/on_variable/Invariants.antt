use Rattle.std.proofs.Common.{◌≡◌, drop}
use Rattle.reduction.specs.Finding.{first}
use Rattle.reduction.specs.Moves.{on_equation, on_variable}
use Rattle.reduction.proofs.steps.on_variable.Given as goal

abbrev pub invariant-loop-hyp : goal.invariant-loop-hyp
invariant-loop-hyp l = first on_equation (drop l.hyp-index l.hyp-items) ≡ on_variable l.subgoal
