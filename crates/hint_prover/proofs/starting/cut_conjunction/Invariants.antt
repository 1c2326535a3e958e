use Rattle.std.proofs.Common.{◌≡◌, ◌<◌, drop, length}
use Rattle.hints.specs.Start.{conjunction}
use Rattle.reduction_proofs.specs.Start.{cut_conjunction}
use Rattle.hint_prover.proofs.starting.cut_conjunction.Given as goal

abbrev pub invariant-terms : goal.invariant-terms
invariant-terms l = record {
  all : l.all ≡ cut_conjunction (drop l.i l.terms) l.fn.p;
  rest : l.rest ≡ conjunction (drop l.i l.terms);
  inside : l.i < length l.terms;
}

abbrev pub decreases-terms : goal.decreases-terms
decreases-terms l = l.i
