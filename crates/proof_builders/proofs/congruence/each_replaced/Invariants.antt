use Rattle.std.proofs.Common.{◌≡◌, ◌+◌, drop}
use Rattle.proof_builders.specs.Congruence.{each_replaced}
use Rattle.proof_builders.proofs.congruence.each_replaced.Given as goal

abbrev pub invariant-loop-i : goal.invariant-loop-i
invariant-loop-i l = each_replaced (l.i + 1) (drop l.i l.proofs) l.on ≡ each_replaced 1 l.proofs l.fn.on
