use Rattle.std.proofs.Common.{◌≡◌, ◌≤◌, ◌+◌, ◌*◌}
use Rattle.proof_objects.specs.ProofTrees.{steps}
use Rattle.proof_objects.proofs.tests.takes_a_deep_proof.Given as goal

abbrev pub invariant-loop : goal.invariant-loop
invariant-loop g l = record {
  counted : steps l.proof ≡ 2 * l.counter + 1;
  few : l.counter ≤ 100000;
}
