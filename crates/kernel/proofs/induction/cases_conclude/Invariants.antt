use Rattle.kernel.specs.InductCases.{falls_of}
use Rattle.kernel.proofs.Premises.{Concluded}
use Rattle.kernel.proofs.induction.cases_conclude.Given as goal

abbrev pub invariant-loop-case : goal.invariant-loop-case
invariant-loop-case l = Concluded l.world (falls_of l.cases) l.case-index
