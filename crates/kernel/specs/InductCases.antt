-- The cases of an induction with what is proved in them.
use Rattle.std.specs.Prelude.{List, ◌∷◌, map}
use Rattle.terms.specs.Terms.{Tm}
use Rattle.proof_objects.specs.ProofTrees.{ProofTree, By, trees}
use Rattle.proof_objects.specs.declared.step.InductionCase.{InductionCase}
use Rattle.proof_objects.specs.declared.step.Step.TheVariants.{Induct}
use Rattle.kernel.specs.Conclusion.{Conclusion, proofs_of}
use Rattle.kernel.specs.declared.induction.InductCase.{InductCase}

-- the case as the step has it
abbrev pub case_of : InductCase → InductionCase
case_of c = record { test = c.test; subst = c.subst }

abbrev pub cases_of : List InductCase → List InductionCase
cases_of = map case_of

-- what is proved in each case: that the measure falls
abbrev pub falls_of : List InductCase → List Conclusion
falls_of = map (λ c. c.falls)

-- the induction on m with these proofs
abbrev pub by_induction : Tm → Conclusion → Conclusion → List InductCase → ProofTree
by_induction m natural base cs = By (Induct m (cases_of cs)) (trees (natural.proof ∷ base.proof ∷ proofs_of (falls_of cs)))
