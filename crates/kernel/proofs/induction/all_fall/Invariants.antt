use Rattle.std.proofs.Common.{◌≡◌, drop}
use Rattle.kernel.specs.Conclusion.{sequents_of}
use Rattle.kernel.specs.InductCases.{cases_of, falls_of}
use Rattle.kernel.specs.Induction.{all_fall}
use Rattle.kernel.proofs.induction.all_fall.Given as goal

abbrev pub invariant-loop-case : goal.invariant-loop-case
invariant-loop-case l =
    all_fall l.world.functions l.measure (cases_of (drop l.case-index l.cases)) (sequents_of (falls_of (drop l.case-index l.cases))) ≡ all_fall l.world.functions l.measure (cases_of l.cases) (sequents_of (falls_of l.cases))
