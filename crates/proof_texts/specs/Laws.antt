-- What is read again of what was written.
use Rattle.std.specs.Prelude.{◌≡◌, ◌≤◌, ◌<◌, ◌-◌, ◌^◌, ℕ, true, false, bytes_eq, nat_lt, codes, is_some, List, [], ◌∷◌, ◌++◌, length, Option, Some, None, Ok}
use Rattle.lisp_data.specs.Values.{Name}
use Rattle.lisp_reader.specs.Grammar.{book_of}
use Rattle.lisp_reader.specs.Printed.{nesting, IsPrintable}
use Rattle.term_forms.specs.Names.{is_variable_name}
use Rattle.term_forms.specs.TranslationLaws.{IsTermOver, WordsApart}
use Rattle.terms.specs.Primitives.{lookup}
use Rattle.terms.specs.Substitution.{Pairs}
use Rattle.terms.specs.Terms.{Tm}
use Rattle.terms.specs.Worlds.{World, Each, arity}
use Rattle.terms.specs.declared.entries.FactName.{FactName}
use Rattle.terms.specs.declared.entries.FactName.TheVariants as fact
use Rattle.terms.specs.declared.entries.FunPair.{FunPair}
use Rattle.worlds.specs.Lookups.{find_iso}
use Rattle.proof_objects.specs.ProofTrees.{ProofTree, By, Trees, NoMore, Also}
use Rattle.proof_objects.specs.declared.step.Step.{Step}
use Rattle.proof_objects.specs.declared.step.InductionCase.{InductionCase}
use Rattle.proof_texts.specs.Words.{text_of, word_of, kinds_of}
use Rattle.proof_texts.specs.Parts.{any}
use Rattle.proof_texts.specs.StepParts.{step_of}
use Rattle.proof_texts.specs.Given.{word_for, parts_of}
use Rattle.proof_texts.specs.Printing.{form_of_proof, proof_text}
use Rattle.proof_texts.specs.ProofTexts.{proof_of}
use Rattle.proof_texts.specs.declared.words.Kind.{Kind}
use Rattle.proof_texts.specs.declared.words.Kind.TheVariants as kind
use Rattle.proof_texts.specs.declared.words.Word.{Word}
use Rattle.proof_texts.specs.declared.steps.Part.{Part}
use Rattle.proof_texts.specs.declared.steps.Part.TheVariants as part
use Rattle.lisp_reader.specs.declared.limits.TheConstants.{MAX_BOOK, MAX_NESTING}

-- each word is found by its text
abbrev pub WordsAreFound : Type 0
WordsAreFound = (w : Word) → word_of (text_of w) ≡ Some w

-- a step is made again of its word and its parts
abbrev pub StepsAreMade : Type 0
StepsAreMade = (s : Step) → step_of (word_for s) (parts_of s) ≡ Some s

-- a term over the world's functions, within the limits
abbrev pub IsTerm : World → Tm → Type 0
IsTerm W t = IsTermOver (arity W.functions) any t

-- a number of 32 bits
abbrev pub IsNumber : ℕ → Type 0
IsNumber n = nat_lt n (2 ^ 32) ≡ true

-- after the pairs before them: terms for variables, no variable twice
abbrev pub AreImages : World → Pairs → Pairs → Type 0
AreImages W before [] = Unit {0}
AreImages W before (e ∷ s) = (is_variable_name e.0 ≡ true) × (is_some (lookup before e.0) ≡ false) × IsTerm W e.1 × AreImages W (before ++ e ∷ []) s

abbrev pub IsSubstitution : World → Pairs → Type 0
IsSubstitution W s = AreImages W [] s

abbrev pub IsTheorem : World → Name → Type 0
IsTheorem W n = is_some (lookup W.theorems n) ≡ true

abbrev pub IsFunction : World → Name → Type 0
IsFunction W n = is_some (arity W.functions n) ≡ true

abbrev pub IsIsomorphism : World → Name → Type 0
IsIsomorphism W n = is_some (find_iso W.isos n) ≡ true

-- a fact that may be instantiated
abbrev pub IsFact : World → FactName → Type 0
IsFact W (fact.Theorem n) = IsTheorem W n
IsFact W (fact.Measure f k) = IsFunction W f × IsNumber k
IsFact W (fact.Isomorphism n k) = ⊥

abbrev pub IsPair : World → FunPair → Type 0
IsPair W p = IsFunction W p.variable × IsFunction W p.function × (bytes_eq p.function (codes "NIL") ≡ false)

abbrev pub IsCase : World → InductionCase → Type 0
IsCase W c = IsTerm W c.test × IsSubstitution W c.subst

-- a part of a kind, other than a proof and cases
abbrev pub IsPart : World → Kind → Part → Type 0
IsPart W kind.Term (part.Term t) = IsTerm W t
IsPart W kind.Terms (part.Terms ts) = Each (IsTerm W) ts
IsPart W kind.Path (part.Path path) = Each IsNumber path
IsPart W kind.Number (part.Number n) = IsNumber n
IsPart W kind.Substitution (part.Substitution s) = IsSubstitution W s
IsPart W kind.Theorem (part.Name n) = IsTheorem W n
IsPart W kind.Function (part.Name n) = IsFunction W n
IsPart W kind.Isomorphism (part.Name n) = IsIsomorphism W n
IsPart W kind.Fact (part.Fact f) = IsFact W f
IsPart W kind.Functions (part.Functions ps) = Each (IsPair W) ps
IsPart W _ _ = ⊥

-- so many proofs: one for each case, which stand last
abbrev pub AreCases : World → List Kind → List Part → ℕ → Type 0
AreCases W [] (part.Cases cs ∷ []) n = Each (IsCase W) cs × (length cs ≡ n)
AreCases W _ _ n = ⊥

-- parts of these kinds, with so many proofs
abbrev pub AreParts : World → List Kind → List Part → ℕ → Type 0
AreParts W [] [] n = n ≡ 0
AreParts W [] (p ∷ ps) n = ⊥
AreParts W (kind.Proof ∷ ks) ps n = (0 < n) × AreParts W ks ps (n - 1)
AreParts W (kind.Cases ∷ ks) ps n = AreCases W ks ps n
AreParts W (k ∷ ks) [] n = ⊥
AreParts W (k ∷ ks) (p ∷ ps) n = IsPart W k p × AreParts W ks ps n

-- subproofs as a list
abbrev pub listed : Trees → List ProofTree
listed NoMore = []
listed (Also p ps) = p ∷ listed ps

-- a proof whose parts are well formed in the world
abbrev mutual
  pub IsReadable : World → ProofTree → Type 0
  IsReadable W (By s ps) = AreParts W (kinds_of (word_for s)) (parts_of s) (length (listed ps)) × AreReadable W ps

  pub AreReadable : World → Trees → Type 0
  AreReadable W NoMore = Unit {0}
  AreReadable W (Also p ps) = IsReadable W p × AreReadable W ps

-- the text of a proof, as a book, is its form alone, which is that proof, if it keeps the limits of a book
pub record IsProofAgain (W : World) (p : ProofTree) : Type 0 where
  pub read : nesting (form_of_proof p) ≤ MAX_NESTING → length (proof_text p) ≤ MAX_BOOK → IsPrintable (form_of_proof p) → book_of (proof_text p) ≡ ((form_of_proof p, 0) ∷ [], None)
  pub proof : proof_of W (form_of_proof p) ≡ Ok p

-- each proof that is well formed in the world
abbrev pub ProofsAreReadAgainIn : World → Type 0
ProofsAreReadAgainIn W = (p : ProofTree) → IsReadable W p → IsProofAgain W p

-- in each world where no word of the syntax of terms is a function
abbrev pub ProofsAreReadAgain : Type 0
ProofsAreReadAgain = (W : World) → WordsApart (arity W.functions) → ProofsAreReadAgainIn W
