use Rattle.std.proofs.Common.{◌≡◌, ◌∷◌, take}
use Rattle.kernel.specs.Conclusion.{proofs_of}
use Rattle.kernel.specs.InductCases.{falls_of}
use Rattle.kernel.proofs.proved.case_proofs.Given as goal

abbrev pub invariant-loop-case : goal.invariant-loop-case
invariant-loop-case l = l.proofs ≡ l.natural.proof ∷ l.base.proof ∷ proofs_of (falls_of (take l.case-index l.cases))
