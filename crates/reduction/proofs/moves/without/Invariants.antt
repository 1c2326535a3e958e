use Rattle.std.proofs.Common.{◌≡◌, ◌++◌, drop}
use Rattle.reduction.specs.Hyps.{without}
use Rattle.reduction.proofs.moves.without.Given as goal

abbrev pub invariant-loop-hyp : goal.invariant-loop-hyp
invariant-loop-hyp l = l.left ++ without (drop l.hyp-index l.hyp-items) l.term ≡ without l.hyps l.term
