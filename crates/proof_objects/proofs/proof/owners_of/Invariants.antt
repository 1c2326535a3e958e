use Rattle.std.proofs.Common.{◌≡◌, take}
use Rattle.proof_objects.proofs.proof.owners_of.Given as goal

abbrev pub invariant-loop-proof : goal.invariant-loop-proof
invariant-loop-proof l = l.owners.items ≡ take l.proof-index l.proofs
