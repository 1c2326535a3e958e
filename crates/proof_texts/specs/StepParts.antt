-- The steps of words and the parts after them that are no proofs.
use Rattle.std.specs.Prelude.{ℕ, List, [], ◌∷◌, Option, Some, None, option_map, option_and_then}
use Rattle.lisp_data.specs.Values.{Name}
use Rattle.terms.specs.Terms.{Tm}
use Rattle.terms.specs.Substitution.{Pairs}
use Rattle.terms.specs.declared.entries.FactName.{FactName}
use Rattle.terms.specs.declared.entries.FactName.TheVariants as fact
use Rattle.terms.specs.declared.entries.FunPair.{FunPair}
use Rattle.proof_objects.specs.declared.rule.Rule.TheVariants as rule
use Rattle.proof_objects.specs.declared.step.Step.{Step}
use Rattle.proof_objects.specs.declared.step.Step.TheVariants as step
use Rattle.proof_objects.specs.declared.step.InductionCase.{InductionCase}
use Rattle.proof_texts.specs.declared.words.Word.{Word}
use Rattle.proof_texts.specs.declared.words.Word.TheVariants.{Rule, Measure, Isomorphism}
use Rattle.proof_texts.specs.declared.steps.Part.{Part}
use Rattle.proof_texts.specs.declared.steps.Part.TheVariants as part

-- what a part is, where it is of that kind
abbrev pub a_term : Part → Option Tm
a_term (part.Term t) = Some t
a_term _ = None

abbrev pub some_terms : Part → Option (List Tm)
some_terms (part.Terms ts) = Some ts
some_terms _ = None

abbrev pub a_path : Part → Option (List ℕ)
a_path (part.Path path) = Some path
a_path _ = None

abbrev pub a_number : Part → Option ℕ
a_number (part.Number n) = Some n
a_number _ = None

abbrev pub a_substitution : Part → Option Pairs
a_substitution (part.Substitution s) = Some s
a_substitution _ = None

abbrev pub a_name : Part → Option Name
a_name (part.Name n) = Some n
a_name _ = None

abbrev pub a_fact : Part → Option FactName
a_fact (part.Fact f) = Some f
a_fact _ = None

abbrev pub some_functions : Part → Option (List FunPair)
some_functions (part.Functions ps) = Some ps
some_functions _ = None

abbrev pub some_cases : Part → Option (List InductionCase)
some_cases (part.Cases cs) = Some cs
some_cases _ = None

-- the only part, and the only two
abbrev pub only : {A : Type 0} → List A → Option A
only [] = None
only (a ∷ []) = Some a
only (a ∷ b ∷ ps) = None

abbrev pub only_two : {A : Type 0} → List A → Option (A × A)
only_two [] = None
only_two (a ∷ []) = None
only_two (a ∷ b ∷ []) = Some (a, b)
only_two (a ∷ b ∷ c ∷ ps) = None

-- a step of no parts, of one part, and of two
abbrev pub of_none : Step → List Part → Option Step
of_none s [] = Some s
of_none s (a ∷ ps) = None

abbrev pub of_one : {A : Type 0} → (Part → Option A) → (A → Step) → List Part → Option Step
of_one f k ps = option_map k (option_and_then f (only ps))

abbrev pub of_two : {A B : Type 0} → (Part → Option A) → (Part → Option B) → (A → B → Step) → List Part → Option Step
of_two f g k ps = option_and_then (λ p. option_and_then (λ a. option_map (k a) (g p.1)) (f p.0)) (only_two ps)

-- the step of a word and the parts after it that are no proofs
abbrev pub step_of : Word → List Part → Option Step
step_of (Rule rule.Hyp) = of_one a_term step.Hyp
step_of (Rule rule.Refl) = of_one a_term step.Refl
step_of (Rule rule.Replace) = of_one a_path step.Replace
step_of (Rule rule.Unfold) = of_one a_term step.Unfold
step_of (Rule rule.Eval) = of_one a_term step.Eval
step_of (Rule rule.Substitute) = of_one a_substitution step.Substitute
step_of (Rule rule.IfTrue) = of_two a_term a_term step.IfTrue
step_of (Rule rule.IfFalse) = of_two a_term a_term step.IfFalse
step_of (Rule rule.Cases) = of_one a_term step.Cases
step_of (Rule rule.Cut) = of_none step.Cut
step_of (Rule rule.Weaken) = of_two some_terms some_terms step.Weaken
step_of (Rule rule.Contradict) = of_one a_term step.Contradict
step_of (Rule rule.Axiom) = of_two a_number a_substitution step.Axiom
step_of (Rule rule.Ring) = of_two a_term a_term step.Ring
step_of (Rule rule.ImpliesIn) = of_one a_term step.ImpliesIn
step_of (Rule rule.ImpliesOut) = of_none step.ImpliesOut
step_of (Rule rule.Universal) = of_two a_term a_substitution step.Universal
step_of (Rule rule.Discharge) = of_none step.Discharge
step_of (Rule rule.Theorem) = of_one a_name (λ n. step.Theorem (fact.Theorem n))
step_of Measure = of_two a_name a_number (λ f k. step.Theorem (fact.Measure f k))
step_of Isomorphism = of_two a_name a_number (λ n k. step.Theorem (fact.Isomorphism n k))
step_of (Rule rule.Instance) = of_two a_fact some_functions step.Instance
step_of (Rule rule.Induct) = of_two a_term some_cases step.Induct
