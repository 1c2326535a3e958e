-- Proofs by their last rule: a name for each rule that a reduction needs.
use Rattle.std.specs.Prelude.{ℕ, List, ◌∷◌}
use Rattle.lisp_data.specs.Values.{Name}
use Rattle.terms.specs.Terms.{Tm}
use Rattle.terms.specs.Substitution.{Pairs}
use Rattle.terms.specs.declared.entries.FactName.TheVariants as fact
use Rattle.terms.specs.declared.entries.FunPair.{FunPair}
use Rattle.proof_objects.specs.ProofTrees.{ProofTree, By, trees}
use Rattle.proof_objects.specs.declared.step.InductionCase.{InductionCase}
use Rattle.proof_objects.specs.declared.step.Step.TheVariants as step
use Rattle.kernel.specs.Conclusion.{alone, after, after_both}

abbrev pub Proof : Type 0
Proof = ProofTree

abbrev pub Hyp : Tm → Proof
Hyp p = alone (step.Hyp p)

abbrev pub Refl : Tm → Proof
Refl a = alone (step.Refl a)

abbrev pub Replace : Proof → Proof → List ℕ → Proof
Replace P Q path = after_both (step.Replace path) P Q

abbrev pub Unfold : Tm → Proof
Unfold t = alone (step.Unfold t)

abbrev pub Eval : Tm → Proof
Eval a = alone (step.Eval a)

abbrev pub Substitute : Proof → Pairs → Proof
Substitute P s = after (step.Substitute s) P

abbrev pub IfTrue : Proof → Tm → Tm → Proof
IfTrue P b c = after (step.IfTrue b c) P

abbrev pub IfFalse : Proof → Tm → Tm → Proof
IfFalse P b c = after (step.IfFalse b c) P

abbrev pub Cases : Tm → Proof → Proof → Proof
Cases c P Q = after_both (step.Cases c) P Q

abbrev pub Cut : Proof → Proof → Proof
Cut P Q = after_both step.Cut P Q

abbrev pub Contradict : Proof → Proof → Tm → Proof
Contradict P Q g = after_both (step.Contradict g) P Q

abbrev pub Axiom : ℕ → Pairs → Proof
Axiom k s = alone (step.Axiom k s)

abbrev pub Ring : Tm → Tm → Proof
Ring a b = alone (step.Ring a b)

abbrev pub ImpliesIn : Tm → Proof → Proof
ImpliesIn h P = after (step.ImpliesIn h) P

abbrev pub ImpliesOut : Proof → Proof → Proof
ImpliesOut P Q = after_both step.ImpliesOut P Q

abbrev pub Universal : Tm → Pairs → Proof
Universal u s = alone (step.Universal u s)

-- a theorem with functions in the place of function variables
abbrev pub Instance : Name → List FunPair → Proof
Instance n pairs = alone (step.Instance (fact.Theorem n) pairs)

-- what the measure of a function owes, from 0 on
abbrev pub Owed : Name → ℕ → Proof
Owed f k = alone (step.Theorem (fact.Measure f k))

-- the condition k of an isomorphism, from 1 on
abbrev pub OfIso : Name → ℕ → Proof
OfIso n k = alone (step.Theorem (fact.Isomorphism n k))

-- the proofs that the measure is natural and of the goal, then one for each case
abbrev pub Induct : Tm → List InductionCase → Proof → Proof → List Proof → Proof
Induct m cs P B ps = By (step.Induct m cs) (trees (P ∷ B ∷ ps))
