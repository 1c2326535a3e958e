-- The proofs of texts. A text is a list of a word and the parts that the table has after it. What is wrong comes from left to right,
-- the number of parts before them.
use Rattle.std.specs.Prelude.{ℕ, nat_eq, if◌then◌else◌, List, [], ◌∷◌, ◌++◌, length, Option, Some, None, Ok, option_and_then}
use Rattle.lisp_data.specs.Datum.{Datum, IntForm, SymForm, TextForm, PairForm, chain, nil_form}
use Rattle.terms.specs.Terms.{Tm}
use Rattle.terms.specs.Substitution.{Pairs}
use Rattle.terms.specs.Worlds.{World}
use Rattle.term_forms.specs.Translation.{Outcome, and_then, map_outcome}
use Rattle.proof_objects.specs.ProofTrees.{ProofTree, By, trees}
use Rattle.proof_texts.specs.Items.{items_of, symbol_of}
use Rattle.proof_texts.specs.Refused.{bad_proof, or_bad}
use Rattle.proof_texts.specs.Words.{kinds_of, word_of}
use Rattle.proof_texts.specs.Parts.{list_of, term_of, terms_of, path_of, number_of, substitution_of, theorem_of, function_of, isomorphism_of, fact_of, functions_of}
use Rattle.proof_texts.specs.StepParts.{step_of}
use Rattle.proof_texts.specs.declared.words.Kind.{Kind}
use Rattle.proof_texts.specs.declared.words.Kind.TheVariants as kind
use Rattle.proof_texts.specs.declared.words.Word.{Word}
use Rattle.proof_texts.specs.declared.steps.Part.{Part}
use Rattle.proof_texts.specs.declared.steps.Part.TheVariants as part
use Rattle.proof_texts.specs.declared.read.Read.{Read as ReadByCode}
use Rattle.proof_texts.specs.declared.read.CasesRead.{CasesRead}

-- what was read of a text: the parts that are no proofs, and the subproofs, both in order
pub record Read : Type 0 where
  pub parts : List Part
  pub subproofs : List ProofTree

abbrev pub read_of : ReadByCode → Read
read_of r = record { parts = r.parts.items; subproofs = r.subproofs }

abbrev pub nothing : Read
nothing = record { parts = []; subproofs = [] }

abbrev pub with_part : Read → Part → Read
with_part r p = record { parts = r.parts ++ p ∷ []; subproofs = r.subproofs }

abbrev pub with_proof : Read → ProofTree → Read
with_proof r p = record { parts = r.parts; subproofs = r.subproofs ++ p ∷ [] }

-- before the cases of an induction
abbrev pub no_cases : List ProofTree → CasesRead
no_cases ps = record { cases = []; subproofs = ps }

-- after them
abbrev pub with_cases : Read → CasesRead → Read
with_cases r c = record { parts = r.parts ++ part.Cases c.cases ∷ []; subproofs = c.subproofs }

abbrev pub with_case : CasesRead → Tm → Pairs → ProofTree → CasesRead
with_case c q s p = record { cases = c.cases ++ record { test = q; subst = s } ∷ []; subproofs = c.subproofs ++ p ∷ [] }

-- what was read, and a part of a kind; it is known which proof the form is, and which cases
abbrev pub part_after : World → Read → Kind → Datum → Outcome ProofTree → Outcome CasesRead → Outcome Read
part_after W r kind.Proof d p cs = map_outcome (with_proof r) p
part_after W r kind.Term d p cs = map_outcome (λ t. with_part r (part.Term t)) (term_of W d)
part_after W r kind.Terms d p cs = map_outcome (λ ts. with_part r (part.Terms ts)) (terms_of W d)
part_after W r kind.Path d p cs = map_outcome (λ path. with_part r (part.Path path)) (path_of d)
part_after W r kind.Number d p cs = map_outcome (λ n. with_part r (part.Number n)) (number_of d)
part_after W r kind.Substitution d p cs = map_outcome (λ s. with_part r (part.Substitution s)) (substitution_of W d)
part_after W r kind.Theorem d p cs = map_outcome (λ n. with_part r (part.Name n)) (theorem_of W d)
part_after W r kind.Function d p cs = map_outcome (λ n. with_part r (part.Name n)) (function_of W d)
part_after W r kind.Isomorphism d p cs = map_outcome (λ n. with_part r (part.Name n)) (isomorphism_of W d)
part_after W r kind.Fact d p cs = map_outcome (λ f. with_part r (part.Fact f)) (fact_of W d)
part_after W r kind.Functions d p cs = map_outcome (λ ps. with_part r (part.Functions ps)) (functions_of W d)
part_after W r kind.Cases d p cs = and_then (list_of d) (λ forms. map_outcome (with_cases r) cs)

-- a case from the forms of its test and its substitution, and its proof
abbrev pub case_of : World → CasesRead → Datum → Datum → Outcome ProofTree → Outcome CasesRead
case_of W c q s p = and_then (term_of W q) (λ q. and_then (substitution_of W s) (λ s. map_outcome (with_case c q s) p))

-- the cases that were read, and `(q s Q)`, where it is known which proof the third form is
abbrev pub case_after : World → CasesRead → Option (List Datum) → Outcome ProofTree → Outcome CasesRead
case_after W c (Some (q ∷ s ∷ f ∷ [])) p = case_of W c q s p
case_after W c _ p = bad_proof

-- the word that the head is, where it has so many parts
abbrev pub word_by : ℕ → Option Word → Outcome Word
word_by n None = bad_proof
word_by n (Some w) = if nat_eq (length (kinds_of w)) n then Ok w else bad_proof

abbrev pub word_at : Datum → ℕ → Outcome Word
word_at head n = word_by n (option_and_then word_of (symbol_of head))

abbrev pub word_before : Datum → Option (List Datum) → Outcome Word
word_before head None = bad_proof
word_before head (Some forms) = word_at head (length forms)

-- the proof of a word and what was read after it
abbrev pub tree_by : Word → Read → Outcome ProofTree
tree_by w r = map_outcome (λ s. By s (trees r.subproofs)) (or_bad (step_of w r.parts))

abbrev mutual
  -- the proof of a text, whether its rules are there yet or not
  pub proof_of : World → Datum → Outcome ProofTree
  proof_of W (IntForm z) = bad_proof
  proof_of W (SymForm s) = bad_proof
  proof_of W (TextForm s) = bad_proof
  proof_of W (PairForm head d) = and_then (word_before head (items_of d)) (λ w. and_then (parts_from W nothing (kinds_of w) d) (tree_by w))

  -- what was read, and the parts of these kinds
  pub parts_from : World → Read → List Kind → Datum → Outcome Read
  parts_from W r ks (IntForm z) = Ok r
  parts_from W r ks (SymForm s) = Ok r
  parts_from W r ks (TextForm s) = Ok r
  parts_from W r [] (PairForm a d) = Ok r
  parts_from W r (k ∷ ks) (PairForm a d) =
      and_then (part_after W r k a (proof_of W a) (cases_from W (no_cases r.subproofs) a)) (λ r. parts_from W r ks d)

  -- the cases that were read, and those of a list
  pub cases_from : World → CasesRead → Datum → Outcome CasesRead
  cases_from W c (IntForm z) = Ok c
  cases_from W c (SymForm s) = Ok c
  cases_from W c (TextForm s) = Ok c
  cases_from W c (PairForm a d) = and_then (case_after W c (items_of a) (third W a)) (λ c. cases_from W c d)

  -- the proof of the third form of a list
  pub third : World → Datum → Outcome ProofTree
  third W (PairForm q (PairForm s (PairForm p d))) = proof_of W p
  third W _ = bad_proof

-- a part that a form is
abbrev pub part_at : World → Read → Kind → Datum → Outcome Read
part_at W r k d = part_after W r k d (proof_of W d) (cases_from W (no_cases r.subproofs) d)

-- a case that a form is
abbrev pub case_at : World → CasesRead → Datum → Outcome CasesRead
case_at W c d = case_after W c (items_of d) (third W d)

-- the cases that a form is a list of, after these subproofs
abbrev pub cases_at : World → List ProofTree → Datum → Outcome CasesRead
cases_at W ps d = and_then (list_of d) (λ forms. cases_from W (no_cases ps) d)

-- the proof of a head and the parts after it
abbrev pub tree_from : World → Datum → List Datum → Outcome ProofTree
tree_from W head forms = and_then (word_at head (length forms)) (λ w. and_then (parts_from W nothing (kinds_of w) (chain forms nil_form)) (tree_by w))

abbrev pub tree_of_list : World → List Datum → Outcome ProofTree
tree_of_list W [] = bad_proof
tree_of_list W (head ∷ forms) = tree_from W head forms

-- a case from a list of its parts
abbrev pub case_of_list : World → CasesRead → List Datum → Outcome CasesRead
case_of_list W c (q ∷ s ∷ p ∷ []) = case_of W c q s (proof_of W p)
case_of_list W c _ = bad_proof
