use Rattle.std.proofs.Common.{◌≡◌, drop}
use Rattle.reduction_proofs.specs.Start.{unfolded}
use Rattle.hint_prover.proofs.starting.unfolded.Given as goal

abbrev pub invariant-loop-hypothesis : goal.invariant-loop-hypothesis
invariant-loop-hypothesis l = unfolded (drop l.hypothesis-index l.hyps) l.all ≡ unfolded l.hyps l.fn.p
