use Rattle.std.proofs.Common.{◌≡◌, drop}
use Rattle.reduction_proofs.specs.WayBack.{put_hyps}
use Rattle.hint_prover.proofs.way_back.put_hyps.Given as goal

abbrev pub invariant-loop-i : goal.invariant-loop-i
invariant-loop-i l = put_hyps l.name l.eq (drop l.i l.hyps) l.all ≡ put_hyps l.name l.eq l.hyps l.fn.p
