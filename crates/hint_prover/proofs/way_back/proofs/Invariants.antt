use Rattle.std.proofs.Common.{◌≡◌, ◌≤◌, [], drop, length, reverse}
use Rattle.reduction_proofs.specs.WayBack.{proofs}
use Rattle.hint_prover.proofs.way_back.proofs.Given as goal

abbrev pub invariant-steps : goal.invariant-steps
invariant-steps l = record {
  stack : reverse l.stack.items ≡ proofs l.world (drop l.i l.made) [];
  inside : l.i ≤ length l.made;
}

abbrev pub decreases-steps : goal.decreases-steps
decreases-steps l = l.i
