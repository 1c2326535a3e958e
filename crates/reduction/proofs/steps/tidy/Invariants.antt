use Rattle.std.proofs.Common.{◌≡◌, drop}
use Rattle.reduction.specs.Finding.{first}
use Rattle.reduction.specs.Moves.{tidied, tidy}
use Rattle.reduction.proofs.steps.tidy.Given as goal

abbrev pub invariant-loop-hyp : goal.invariant-loop-hyp
invariant-loop-hyp l = first tidied (drop l.hyp-index l.hyp-items) ≡ tidy l.subgoal
