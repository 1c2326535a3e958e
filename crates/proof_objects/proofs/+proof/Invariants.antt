use Rattle.std.proofs.Common.{◌≤◌}
use Rattle.proof_objects.specs.ProofTrees.{trees, depth, depths, steps_in}
use Rattle.proof_objects.proofs.+proof.Given as goal

abbrev pub invariant-proof::Proof::drop-loop-next : goal.invariant-proof::Proof::drop-loop-next
invariant-proof::Proof::drop-loop-next l = depths (trees l.left.items) ≤ depth l.fn.self

abbrev pub decreases-proof::Proof::drop-loop-next : goal.decreases-proof::Proof::drop-loop-next
decreases-proof::Proof::drop-loop-next l = steps_in (trees l.left.items)
