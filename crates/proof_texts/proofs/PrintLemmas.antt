-- The forms of proofs, one part at a time.
use Rattle.std.proofs.Common.{codes, min, Option, Some, None, slice_get, ◌≡◌, ℕ, zero, suc, ◌+◌, ◌<◌, ◌≤◌, true, List, [], ◌∷◌, ◌++◌, length, get_or, map, drop, take, append_assoc, refl, ap, sym, subst, ◌∙◌, arith}
use Rattle.std.proofs.lemmas.List.{append-nil, drop_all}
use Rattle.lisp_data.specs.Datum.{Datum, PairForm, chain, nil_form}
use Rattle.lisp_data.proofs.Chains.{form_of-int, form_of-sym}
use Rattle.lisp_data.specs.Values.{Name}
use Rattle.lisp_data.specs.SymbolText.{is_symbol_text}
use Rattle.lisp_data.specs.Atoms.{in_atom, is_delimiter, leaf, is_sign}
use Rattle.terms.specs.Terms.{Tm, tms}
use Rattle.term_forms.specs.Printing.{form_of_term, form_of_arguments}
use Rattle.terms.proofs.Args.{args}
use Rattle.proof_objects.specs.ProofTrees.{ProofTree, trees, depths, depth as depth_of}
use Rattle.proof_objects.specs.declared.rule.Rule.TheVariants.{Hyp, Refl, Replace, Unfold, Eval, Substitute, IfTrue, IfFalse, Cases, Cut, Weaken, Contradict, Axiom, Ring, ImpliesIn, ImpliesOut, Universal, Discharge, Theorem, Instance, Induct}
use Rattle.proof_texts.specs.declared.words.Word.{Word}
use Rattle.proof_texts.specs.declared.words.Word.TheVariants.{Rule, Measure, Isomorphism}
use Rattle.proof_texts.specs.Words.{text_of}
use Rattle.proof_objects.specs.declared.step.InductionCase.{InductionCase}
use Rattle.proof_texts.specs.Printing.{form_of_proof, forms_of_proofs, cases_forms, case_form, image_form}
use Rattle.terms.specs.Substitution.{Pairs}
use native.Mathlib.Numerals.{unary_clauses}

-- each word is a symbol's text
pub word-symbol : (w : Word) → is_symbol_text (text_of w) ≡ true
unfolding is_symbol_text in_atom is_delimiter leaf is_sign
word-symbol (Rule Hyp) = refl
word-symbol (Rule Refl) = refl
word-symbol (Rule Replace) = refl
word-symbol (Rule Unfold) = refl
word-symbol (Rule Eval) = refl
word-symbol (Rule Substitute) = refl
word-symbol (Rule IfTrue) = refl
word-symbol (Rule IfFalse) = refl
word-symbol (Rule Cases) = refl
word-symbol (Rule Cut) = refl
word-symbol (Rule Weaken) = refl
word-symbol (Rule Contradict) = refl
word-symbol (Rule Axiom) = refl
word-symbol (Rule Ring) = refl
word-symbol (Rule ImpliesIn) = refl
word-symbol (Rule ImpliesOut) = refl
word-symbol (Rule Universal) = refl
word-symbol (Rule Discharge) = refl
word-symbol (Rule Theorem) = refl
word-symbol (Rule Instance) = refl
word-symbol (Rule Induct) = refl
word-symbol Measure = refl
word-symbol Isomorphism = refl

pub ruleset words = (word-symbol)

pub quote-symbol : is_symbol_text (codes "QUOTE") ≡ true
unfolding is_symbol_text in_atom is_delimiter leaf is_sign
quote-symbol = refl

pub ruleset leaves = (form_of-int, form_of-sym)

pub arguments-chain : (ts : List Tm) → form_of_arguments (tms ts) ≡ chain (map form_of_term ts) nil_form
arguments-chain [] = refl
arguments-chain (t ∷ ts) = ap (PairForm (form_of_term t)) (arguments-chain ts)

pub ruleset terms = (args, arguments-chain, append_assoc, quote-symbol)

-- a variable with its term, and those after it
pub image-at : (s : Pairs) (i : ℕ) (e : Name × Tm) → slice_get s i ≡ Some e → map image_form (drop i s) ≡ image_form e ∷ map image_form (drop (i + 1) s)
image-at [] i e h = absurd (cc)
image-at (p ∷ s) zero e h = let same : p ≡ e = cc in ap (λ p. image_form p ∷ map image_form s) same
image-at (p ∷ s) (suc i) e h = simp unary_clauses (simp unary_clauses at (image-at s i e h))

pub image-none : (s : Pairs) (i : ℕ) → slice_get s i ≡ None → map image_form (drop i s) ≡ map image_form (drop (i + 1) s)
image-none [] zero h = refl
image-none [] (suc i) h = simp unary_clauses refl
image-none (p ∷ s) zero h = absurd (cc)
image-none (p ∷ s) (suc i) h = simp unary_clauses (simp unary_clauses at (image-none s i h))

pub ruleset images = (image-at, image-none, append_assoc, append-nil, drop_all)

pub ruleset lists = (append_assoc, append-nil, drop_all)

-- the forms of subproofs
pub forms-map : (ps : List ProofTree) → forms_of_proofs (trees ps) ≡ map form_of_proof ps
forms-map [] = refl
forms-map (p ∷ ps) = ap (λ fs. form_of_proof p ∷ fs) (forms-map ps)

-- a subproof is less deep than the proof
pub depth-at : (ps : List ProofTree) (i : ℕ) (p : ProofTree) → i < length ps → p ≡ get_or ps i p → depth_of p < depths (trees ps)
depth-at [] i p h e = absurd (omega arith)
depth-at (q ∷ ps) zero p h e = omega (arith, ap depth_of e)
depth-at (q ∷ ps) (suc i) p h e = omega (arith, depth-at ps i p (omega arith) e)

pub ruleset proofs = (forms-map, depth-at, append_assoc, append-nil)

-- the cases from a place on, with their proofs
abbrev pub cases_left : List InductionCase → List ProofTree → ℕ → List Datum
cases_left cs ps i = cases_forms (drop i cs) (map form_of_proof (drop i ps))

cases-step : (cs : List InductionCase) (ps : List ProofTree) (i : ℕ) (c : InductionCase) (p : ProofTree) → i < length cs → i < length ps →
    cases_left cs ps i ≡ case_form (get_or cs i c) (form_of_proof (get_or ps i p)) ∷ cases_left cs ps (i + 1)
cases-step [] ps i c p h g = absurd (omega arith)
cases-step (x ∷ cs) [] i c p h g = absurd (omega arith)
cases-step (x ∷ cs) (y ∷ ps) zero c p h g = refl
cases-step (x ∷ cs) (y ∷ ps) (suc i) c p h g = simp unary_clauses (simp unary_clauses at (cases-step cs ps i c p (omega arith) (omega arith)))

pub cases-more : (cs : List InductionCase) (ps : List ProofTree) (i : ℕ) (c : InductionCase) (p : ProofTree) (fs : List Datum) → i < length cs → i < length ps →
    (fs ++ case_form (get_or cs i c) (form_of_proof (get_or ps i p)) ∷ []) ++ cases_left cs ps (i + 1) ≡ fs ++ cases_left cs ps i
cases-more cs ps i c p fs h g =
    append_assoc fs (case_form (get_or cs i c) (form_of_proof (get_or ps i p)) ∷ []) (cases_left cs ps (i + 1)) ∙ ap (λ rest. fs ++ rest) (sym (cases-step cs ps i c p h g))

no_cases_left : (cs : List InductionCase) (ps : List ProofTree) (i : ℕ) → length cs ≤ i → cases_left cs ps i ≡ []
no_cases_left cs ps i h = ap (λ zs. cases_forms zs (map form_of_proof (drop i ps))) (drop_all i cs h)

no_proofs : (cs : List InductionCase) → cases_forms cs [] ≡ []
no_proofs [] = refl
no_proofs (c ∷ cs) = refl

no_proofs_left : (cs : List InductionCase) (ps : List ProofTree) (i : ℕ) → length ps ≤ i → cases_left cs ps i ≡ []
no_proofs_left cs ps i h = ap (λ zs. cases_forms (drop i cs) (map form_of_proof zs)) (drop_all i ps h) ∙ no_proofs (drop i cs)

none_left : (cs : List InductionCase) (ps : List ProofTree) (i : ℕ) → min (length cs) (length ps) ≤ i → cases_left cs ps i ≡ []
none_left [] ps i h = no_cases_left [] ps i (omega arith)
none_left (x ∷ cs) [] i h = no_proofs_left (x ∷ cs) [] i (omega arith)
none_left (x ∷ cs) (y ∷ ps) zero h = absurd (omega (arith, h))
none_left (x ∷ cs) (y ∷ ps) (suc i) h = none_left cs ps i (omega (arith, h))

pub cases-end : (cs : List InductionCase) (ps : List ProofTree) (i : ℕ) (fs : List Datum) → min (length cs) (length ps) ≤ i → fs ++ cases_left cs ps i ≡ fs
cases-end cs ps i fs h = ap (λ rest. fs ++ rest) (none_left cs ps i h) ∙ append-nil fs

pub ruleset cases = (cases-more, cases-end, depth-at)
