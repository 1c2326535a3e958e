-- What steps are given, as the parts of their texts.
use Rattle.std.specs.Prelude.{List, [], ◌∷◌}
use Rattle.terms.specs.declared.entries.FactName.{FactName}
use Rattle.terms.specs.declared.entries.FactName.TheVariants as fact
use Rattle.proof_objects.specs.StepRules.{rule_of}
use Rattle.proof_objects.specs.declared.rule.Rule.TheVariants as rule
use Rattle.proof_objects.specs.declared.step.Step.{Step}
use Rattle.proof_objects.specs.declared.step.Step.TheVariants as step
use Rattle.proof_texts.specs.declared.words.Word.{Word}
use Rattle.proof_texts.specs.declared.words.Word.TheVariants.{Rule, Measure, Isomorphism}
use Rattle.proof_texts.specs.declared.steps.Part.{Part}
use Rattle.proof_texts.specs.declared.steps.Part.TheVariants as part
use Rattle.proof_texts.specs.declared.given.Given.{Given}
use Rattle.proof_texts.specs.declared.given.Given.TheVariants as given

-- the part itself
abbrev pub seen : Given → Part
seen (given.Term t) = part.Term t.now
seen (given.Terms ts) = part.Terms ts.now
seen (given.Path path) = part.Path path.now
seen (given.Number n) = part.Number n
seen (given.Substitution s) = part.Substitution s.now
seen (given.Name n) = part.Name n.now
seen (given.Fact f) = part.Fact f.now
seen (given.Functions ps) = part.Functions ps.now
seen (given.Cases cs) = part.Cases cs.now

-- the word of a fact's text: that of its rule is a theorem's
abbrev pub word_of_fact : FactName → Word
word_of_fact (fact.Theorem n) = Rule rule.Theorem
word_of_fact (fact.Measure f k) = Measure
word_of_fact (fact.Isomorphism n k) = Isomorphism

-- the word of a step's text
abbrev pub word_for : Step → Word
word_for (step.Theorem f) = word_of_fact f
word_for s = Rule (rule_of s)

abbrev pub parts_of_fact : FactName → List Part
parts_of_fact (fact.Theorem n) = part.Name n ∷ []
parts_of_fact (fact.Measure f k) = part.Name f ∷ part.Number k ∷ []
parts_of_fact (fact.Isomorphism n k) = part.Name n ∷ part.Number k ∷ []

-- the parts after the word that are no proofs
abbrev pub parts_of : Step → List Part
parts_of (step.Hyp p) = part.Term p ∷ []
parts_of (step.Refl a) = part.Term a ∷ []
parts_of (step.Replace path) = part.Path path ∷ []
parts_of (step.Unfold t) = part.Term t ∷ []
parts_of (step.Eval a) = part.Term a ∷ []
parts_of (step.Substitute s) = part.Substitution s ∷ []
parts_of (step.IfTrue b c) = part.Term b ∷ part.Term c ∷ []
parts_of (step.IfFalse b c) = part.Term b ∷ part.Term c ∷ []
parts_of (step.Cases c) = part.Term c ∷ []
parts_of step.Cut = []
parts_of (step.Weaken hs us) = part.Terms hs ∷ part.Terms us ∷ []
parts_of (step.Contradict g) = part.Term g ∷ []
parts_of (step.Axiom k s) = part.Number k ∷ part.Substitution s ∷ []
parts_of (step.Ring a b) = part.Term a ∷ part.Term b ∷ []
parts_of (step.ImpliesIn h) = part.Term h ∷ []
parts_of step.ImpliesOut = []
parts_of (step.Universal u s) = part.Term u ∷ part.Substitution s ∷ []
parts_of step.Discharge = []
parts_of (step.Theorem f) = parts_of_fact f
parts_of (step.Instance f ps) = part.Fact f ∷ part.Functions ps ∷ []
parts_of (step.Induct m cs) = part.Term m ∷ part.Cases cs ∷ []
