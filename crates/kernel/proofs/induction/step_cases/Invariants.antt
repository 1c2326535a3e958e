use Rattle.std.proofs.Common.{◌≡◌, take}
use Rattle.kernel.specs.InductCases.{cases_of}
use Rattle.kernel.proofs.induction.step_cases.Given as goal

abbrev pub invariant-loop-case : goal.invariant-loop-case
invariant-loop-case l = l.all ≡ cases_of (take l.case-index l.cases)
