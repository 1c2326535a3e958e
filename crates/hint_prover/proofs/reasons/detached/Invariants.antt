use Rattle.std.proofs.Common.{◌≡◌}
use Rattle.terms.specs.Terms.{depth}
use Rattle.hints.specs.Formulas.{remains}
use Rattle.reduction_proofs.specs.Reasons.{detached}
use Rattle.hint_prover.proofs.reasons.detached.Given as goal

abbrev pub invariant-rest : goal.invariant-rest
invariant-rest l = record {
  proof : detached l.s l.rest l.all ≡ detached l.s l.fn.formula l.fn.p;
  remains : remains l.rest ≡ remains l.fn.formula;
}

abbrev pub decreases-rest : goal.decreases-rest
decreases-rest l = depth l.rest
