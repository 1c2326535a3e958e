use Rattle.std.proofs.Common.{◌≡◌, [], ◌∷◌, reverse}
use Rattle.reduction.specs.Reduction.{preceded, reduce}
use Rattle.reduction.proofs.run.reduce.Given as goal

abbrev pub invariant-tasks : goal.invariant-tasks
invariant-tasks l =
    preceded l.made (reduce l.fn.world l.fn.how l.left (reverse l.stack.items))
    ≡ reduce l.fn.world l.fn.how l.fn.steps (record { cases = 0; subgoal = l.fn.subgoal } ∷ [])

abbrev pub decreases-tasks : goal.decreases-tasks
decreases-tasks l = l.left
