use Rattle.std.proofs.Common.{◌≡◌, drop}
use Rattle.std.specs.List.{list_any}
use Rattle.terms.specs.Terms.{same_tm}
use Rattle.kernel.specs.InductCases.{cases_of}
use Rattle.kernel.specs.Induction.{assumption}
use Rattle.kernel.proofs.induction.is_assumed.Given as goal

abbrev pub invariant-loop-case : goal.invariant-loop-case
invariant-loop-case l =
    list_any (λ c. same_tm (assumption l.goal c) l.hypothesis) (cases_of (drop l.case-index l.cases)) ≡ list_any (λ c. same_tm (assumption l.goal c) l.hypothesis) (cases_of l.cases)
