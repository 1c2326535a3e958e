-- The words of proofs, and the kinds of the parts after them.
use Rattle.std.specs.Prelude.{ℕ, Bool, true, false, bytes_eq, if◌then◌else◌, codes, List, [], ◌∷◌, Option, Some, None}
use Rattle.proof_objects.specs.RuleNames as rule_names
use Rattle.proof_objects.specs.declared.rule.Rule.TheVariants.{Hyp, Refl, Replace, Unfold, Eval, Substitute, IfTrue, IfFalse, Cases, Cut, Weaken, Contradict, Axiom, Ring, ImpliesIn, ImpliesOut, Universal, Discharge, Theorem, Instance, Induct}
use Rattle.proof_texts.specs.declared.words.Kind.{Kind}
use Rattle.proof_texts.specs.declared.words.Kind.TheVariants as kind
use Rattle.proof_texts.specs.declared.words.Word.{Word}
use Rattle.proof_texts.specs.declared.words.Word.TheVariants.{Rule, Measure, Isomorphism}

-- the part is a proof
abbrev pub is_proof : Kind → Bool
is_proof kind.Proof = true
is_proof _ = false

-- all words
unfoldable pub words : List Word
words =
    Rule Hyp ∷ Rule Refl ∷ Rule Replace ∷ Rule Unfold ∷ Rule Eval ∷ Rule Substitute ∷ Rule IfTrue ∷ Rule IfFalse ∷ Rule Cases ∷ Rule Cut
    ∷ Rule Weaken ∷ Rule Contradict ∷ Rule Axiom ∷ Rule Ring ∷ Rule ImpliesIn ∷ Rule ImpliesOut ∷ Rule Universal ∷ Rule Discharge
    ∷ Rule Theorem ∷ Measure ∷ Isomorphism ∷ Rule Instance ∷ Rule Induct ∷ []

-- a rule's word as its refusals name it
abbrev pub text_of : Word → List ℕ
text_of (Rule rule) = rule_names.word rule
text_of Measure = codes ":MEASURE"
text_of Isomorphism = codes ":ISO"

-- what the parts after a word are, in order
abbrev pub kinds_of : Word → List Kind
kinds_of (Rule Hyp) = kind.Term ∷ []
kinds_of (Rule Refl) = kind.Term ∷ []
kinds_of (Rule Replace) = kind.Proof ∷ kind.Proof ∷ kind.Path ∷ []
kinds_of (Rule Unfold) = kind.Term ∷ []
kinds_of (Rule Eval) = kind.Term ∷ []
kinds_of (Rule Substitute) = kind.Proof ∷ kind.Substitution ∷ []
kinds_of (Rule IfTrue) = kind.Proof ∷ kind.Term ∷ kind.Term ∷ []
kinds_of (Rule IfFalse) = kind.Proof ∷ kind.Term ∷ kind.Term ∷ []
kinds_of (Rule Cases) = kind.Term ∷ kind.Proof ∷ kind.Proof ∷ []
kinds_of (Rule Cut) = kind.Proof ∷ kind.Proof ∷ []
kinds_of (Rule Weaken) = kind.Proof ∷ kind.Terms ∷ kind.Terms ∷ []
kinds_of (Rule Contradict) = kind.Proof ∷ kind.Proof ∷ kind.Term ∷ []
kinds_of (Rule Axiom) = kind.Number ∷ kind.Substitution ∷ []
kinds_of (Rule Ring) = kind.Term ∷ kind.Term ∷ []
kinds_of (Rule ImpliesIn) = kind.Term ∷ kind.Proof ∷ []
kinds_of (Rule ImpliesOut) = kind.Proof ∷ kind.Proof ∷ []
kinds_of (Rule Universal) = kind.Term ∷ kind.Substitution ∷ []
kinds_of (Rule Discharge) = kind.Proof ∷ kind.Proof ∷ []
kinds_of (Rule Theorem) = kind.Theorem ∷ []
kinds_of Measure = kind.Function ∷ kind.Number ∷ []
kinds_of Isomorphism = kind.Isomorphism ∷ kind.Number ∷ []
kinds_of (Rule Instance) = kind.Fact ∷ kind.Functions ∷ []
kinds_of (Rule Induct) = kind.Term ∷ kind.Proof ∷ kind.Proof ∷ kind.Cases ∷ []

-- the first of these words that is written so
abbrev pub find : List Word → List ℕ → Option Word
find [] text = None
find (word ∷ words) text = if bytes_eq (text_of word) text then Some word else find words text

abbrev pub word_of : List ℕ → Option Word
word_of text = find words text
