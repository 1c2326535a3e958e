use Rattle.std.proofs.Common.{take}
use Rattle.proof_objects.specs.ProofTrees.{trees}
use Rattle.proof_objects.specs.view.Summaries.{SumsIn}
use Rattle.proof_objects.proofs.proof.summary_of.Given as goal

abbrev pub invariant-loop-proof : goal.invariant-loop-proof
invariant-loop-proof l = SumsIn l.all (trees (take l.proof-index l.proofs))
