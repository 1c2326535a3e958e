use Rattle.std.proofs.Common.{◌≡◌, drop}
use Rattle.kernel.specs.Conclusion.{sequents_of}
use Rattle.kernel.specs.InductCases.{falls_of}
use Rattle.kernel.specs.Induction.{with_universals}
use Rattle.kernel.proofs.induction.with_universals.Given as goal

abbrev pub invariant-loop-case : goal.invariant-loop-case
invariant-loop-case l =
    with_universals l.all (sequents_of (falls_of (drop l.case-index l.cases))) ≡ with_universals l.fn.universals (sequents_of (falls_of l.cases))
