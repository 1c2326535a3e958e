use Rattle.std.proofs.Common.{◌≡◌, drop}
use Rattle.terms.specs.Measures.{call1}
use Rattle.reduction.specs.Hyps.{has}
use Rattle.reduction.proofs.hyps.has_call.Given as goal

abbrev pub invariant-loop-hyp : goal.invariant-loop-hyp
invariant-loop-hyp l = has (drop l.hyp-index l.hyps) (call1 l.name l.term) ≡ has l.hyps (call1 l.name l.term)
