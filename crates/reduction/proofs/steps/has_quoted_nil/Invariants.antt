use Rattle.std.proofs.Common.{◌≡◌, drop}
use Rattle.reduction.specs.Hyps.{has, quoted_nil}
use Rattle.reduction.proofs.steps.has_quoted_nil.Given as goal

abbrev pub invariant-loop-hyp : goal.invariant-loop-hyp
invariant-loop-hyp l = has (drop l.hyp-index l.hyps) quoted_nil ≡ has l.hyps quoted_nil
