-- What stands beside a proof's node.
use Rattle.std.specs.Prelude.{◌≡◌}
use Rattle.proof_objects.specs.view.ProofView.{tree_of}
use Rattle.proof_objects.specs.view.Summaries.{Sums}
use Rattle.proof_objects.specs.declared.proof.Shared.{Shared}

pub record IsKept (s : Shared) : Type 0 where
  pub sums : Sums s.summary (tree_of s.node.value)
  pub owners : s.owners.items ≡ s.node.value.subproofs
