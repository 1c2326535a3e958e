-- What is read again of what was written.
use Rattle.std.proofs.Common.{◌≡◌, ◌+◌, ◌-◌, ℕ, zero, suc, ◌<◌, ◌≤◌, Bool, true, false, ◌&&◌, not, is_some, bytes_eq, nat_eq, List, [], ◌∷◌, ◌++◌, length, map, take, drop, append_assoc, codes, Option, Some, None, option_map, option_and_then, if◌then◌else◌, Ok, Err, refl, ap, sym, subst, ◌∙◌, arith, eq-eqb}
use Rattle.std.proofs.lemmas.List.{append-nil}
use Rattle.lisp_data.specs.Values.{Name}
use Rattle.lisp_data.specs.Datum.{Datum, SymForm, PairForm, chain, nil_form}
use Rattle.lisp_reader.proofs.Again.{forms-again}
use Rattle.term_forms.proofs.TermForms.{terms_are_translated}
use Rattle.term_forms.specs.Names.{is_variable_name}
use Rattle.term_forms.specs.Outcomes.{each}
use Rattle.term_forms.specs.Printing.{form_of_term}
use Rattle.term_forms.specs.Translation.{Outcome, and_then, map_outcome, and_rest}
use Rattle.term_forms.specs.TranslationLaws.{WordsApart}
use Rattle.terms.specs.Primitives.{lookup}
use Rattle.terms.specs.Substitution.{Pairs}
use Rattle.terms.specs.Terms.{Tm}
use Rattle.terms.specs.Worlds.{World, Each, arity}
use Rattle.terms.specs.declared.entries.FactName.{FactName}
use Rattle.terms.specs.declared.entries.FactName.TheVariants as fact
use Rattle.terms.specs.declared.entries.FunPair.{FunPair}
use Rattle.proof_objects.specs.ProofTrees.{ProofTree, By, Trees, NoMore, Also, trees}
use Rattle.proof_objects.specs.declared.rule.Rule.TheVariants as rule
use Rattle.proof_objects.specs.declared.step.Step.{Step}
use Rattle.proof_objects.specs.declared.step.Step.TheVariants as step
use Rattle.proof_objects.specs.declared.step.InductionCase.{InductionCase}
use Rattle.proof_texts.specs.Words.{words, text_of, word_of, kinds_of, is_proof}
use Rattle.proof_texts.specs.Items.{items_of}
use Rattle.proof_texts.specs.Refused.{bad_proof, unknown_name, or_bad}
use Rattle.proof_texts.specs.Parts.{term_of, terms_of, number_of, path_of, new_variable, with_pair, with_pairs, substitution_of, known_theorem, known_function, known_isomorphism, theorem_of, function_of, isomorphism_of, fact_of, both, pair_of_names, function_pair, functions_of, list_of}
use Rattle.proof_texts.specs.Given.{word_for, parts_of}
use Rattle.proof_texts.specs.Printing.{list_form, word_form, number_form, image_form, substitution_form, fact_form, pair_form, case_form, cases_forms, part_form, laid, step_form, form_of_proof, forms_of_proofs}
use Rattle.proof_texts.specs.ProofTexts.{Read, nothing, with_part, with_proof, with_cases, no_cases, part_after, part_at, case_of, case_after, word_by, word_at, tree_by, proof_of, tree_from, tree_of_list, parts_from, cases_from, third}
use Rattle.proof_texts.specs.Laws.{WordsAreFound, StepsAreMade, IsTerm, IsNumber, AreImages, IsSubstitution, IsTheorem, IsFunction, IsIsomorphism, IsFact, IsPair, IsCase, IsPart, AreCases, AreParts, listed, IsReadable, AreReadable, IsProofAgain, ProofsAreReadAgain}
use Rattle.proof_texts.specs.declared.read.CasesRead.{CasesRead}
use Rattle.proof_texts.specs.declared.words.Kind.{Kind}
use Rattle.proof_texts.specs.declared.words.Kind.TheVariants as kind
use Rattle.proof_texts.specs.declared.words.Word.{Word}
use Rattle.proof_texts.specs.declared.words.Word.TheVariants.{Rule, Measure, Isomorphism}
use Rattle.proof_texts.specs.declared.steps.Part.{Part}
use Rattle.proof_texts.specs.declared.steps.Part.TheVariants as part
use Rattle.proof_texts.proofs.ItemLemmas.{items_of-chain}
use Rattle.proof_texts.proofs.ReadLemmas.{list_tree}

pub words_found : WordsAreFound
unfolding words
words_found (Rule rule.Hyp) = refl
words_found (Rule rule.Refl) = refl
words_found (Rule rule.Replace) = refl
words_found (Rule rule.Unfold) = refl
words_found (Rule rule.Eval) = refl
words_found (Rule rule.Substitute) = refl
words_found (Rule rule.IfTrue) = refl
words_found (Rule rule.IfFalse) = refl
words_found (Rule rule.Cases) = refl
words_found (Rule rule.Cut) = refl
words_found (Rule rule.Weaken) = refl
words_found (Rule rule.Contradict) = refl
words_found (Rule rule.Axiom) = refl
words_found (Rule rule.Ring) = refl
words_found (Rule rule.ImpliesIn) = refl
words_found (Rule rule.ImpliesOut) = refl
words_found (Rule rule.Universal) = refl
words_found (Rule rule.Discharge) = refl
words_found (Rule rule.Theorem) = refl
words_found (Rule rule.Instance) = refl
words_found (Rule rule.Induct) = refl
words_found Measure = refl
words_found Isomorphism = refl

pub steps_made : StepsAreMade
steps_made (step.Hyp p) = refl
steps_made (step.Refl a) = refl
steps_made (step.Replace path) = refl
steps_made (step.Unfold t) = refl
steps_made (step.Eval a) = refl
steps_made (step.Substitute s) = refl
steps_made (step.IfTrue b c) = refl
steps_made (step.IfFalse b c) = refl
steps_made (step.Cases c) = refl
steps_made step.Cut = refl
steps_made (step.Weaken hs us) = refl
steps_made (step.Contradict g) = refl
steps_made (step.Axiom k s) = refl
steps_made (step.Ring a b) = refl
steps_made (step.ImpliesIn h) = refl
steps_made step.ImpliesOut = refl
steps_made (step.Universal u s) = refl
steps_made step.Discharge = refl
steps_made (step.Theorem (fact.Theorem n)) = refl
steps_made (step.Theorem (fact.Measure f k)) = refl
steps_made (step.Theorem (fact.Isomorphism n k)) = refl
steps_made (step.Instance f ps) = refl
steps_made (step.Induct m cs) = refl

-- each is read again
each-again : {A : Type 0} (P : A → Type 0) (f : Datum → Outcome A) (g : A → Datum) → ((x : A) → P x → f (g x) ≡ Ok x) → (xs : List A) → Each P xs → each f (map g xs) ≡ Ok xs
each-again P f g again [] h = refl
each-again P f g again (x ∷ xs) h = λ i. and_rest (again x h.0 i) (each-again P f g again xs h.1 i)

list_of-again : {A : Type 0} (xs : List Datum) (k : List Datum → Outcome A) → and_then (list_of (list_form xs)) k ≡ k xs
list_of-again xs k = ap (λ o. and_then (or_bad o) k) (items_of-chain xs)

number-again : (n : ℕ) → IsNumber n → number_of (number_form n) ≡ Ok n
number-again n h = ap (λ b. if b then Ok n else bad_proof) h

module _ (W : World) (apart : WordsApart (arity W.functions)) where
  term-again : (t : Tm) → IsTerm W t → term_of W (form_of_term t) ≡ Ok t
  term-again t h = terms_are_translated (arity W.functions) apart _ t h

  theorem-again : (n : Name) → IsTheorem W n → known_theorem W n ≡ Ok n
  theorem-again n h = ap (λ b. if b then Ok n else unknown_name n) h

  function-again : (n : Name) → IsFunction W n → known_function W n ≡ Ok n
  function-again n h = ap (λ b. if b then Ok n else unknown_name n) h

  isomorphism-again : (n : Name) → IsIsomorphism W n → known_isomorphism W n ≡ Ok n
  isomorphism-again n h = ap (λ b. if b then Ok n else unknown_name n) h

  variable-again : (s : Pairs) (x : Name) → is_variable_name x ≡ true → is_some (lookup s x) ≡ false → new_variable s (Some x) ≡ Ok x
  variable-again s x v n = λ i. if v i && not (n i) then Ok x else bad_proof

  images-again : (before s : Pairs) → AreImages W before s → with_pairs W before (map image_form s) ≡ Ok (before ++ s)
  images-again before [] h = ap Ok (sym (append-nil before))
  images-again before (e ∷ s) h =
      (λ i. and_then (and_then (variable-again before e.0 h.0 h.1 i) (λ x. map_outcome (λ t. before ++ (x, t) ∷ []) (term-again e.1 h.2 i))) (λ z. with_pairs W z (map image_form s)))
      ∙ images-again (before ++ e ∷ []) s h.3 ∙ ap Ok (append_assoc before (e ∷ []) s)

  substitution-again : (s : Pairs) → IsSubstitution W s → substitution_of W (substitution_form s) ≡ Ok s
  substitution-again s h = list_of-again (map image_form s) (with_pairs W []) ∙ images-again [] s h

  fact-again : (f : FactName) → IsFact W f → fact_of W (fact_form f) ≡ Ok f
  fact-again (fact.Theorem n) h = ap (map_outcome fact.Theorem) (theorem-again n h)
  fact-again (fact.Measure f k) h = λ i. and_then (function-again f h.0 i) (λ f. map_outcome (fact.Measure f) (number-again k h.1 i))
  fact-again (fact.Isomorphism n k) h = absurd h

  pair-again : (p : FunPair) → IsPair W p → function_pair W (pair_form p) ≡ Ok p
  pair-again p h =
      ap (λ b. and_then (or_bad (if b then None else Some (p.variable, p.function))) (pair_of_names W)) h.2
      ∙ (λ i. and_then (function-again p.variable h.0 i) (λ v. map_outcome (λ f. record { variable = v; function = f }) (function-again p.function h.1 i)))

  part-again : (fs : List Datum) (r : Read) (k : Kind) (p : Part) → IsPart W k p → part_at W r k (part_form fs p) ≡ Ok (with_part r p)
  part-again fs r kind.Term (part.Term t) h = ap (map_outcome (λ t. with_part r (part.Term t))) (term-again t h)
  part-again fs r kind.Terms (part.Terms ts) h =
      ap (map_outcome (λ ts. with_part r (part.Terms ts))) (list_of-again (map form_of_term ts) (each (term_of W)) ∙ each-again (IsTerm W) (term_of W) form_of_term term-again ts h)
  part-again fs r kind.Path (part.Path path) h =
      ap (map_outcome (λ path. with_part r (part.Path path))) (list_of-again (map number_form path) (each number_of) ∙ each-again IsNumber number_of number_form number-again path h)
  part-again fs r kind.Number (part.Number n) h = ap (map_outcome (λ n. with_part r (part.Number n))) (number-again n h)
  part-again fs r kind.Substitution (part.Substitution s) h = ap (map_outcome (λ s. with_part r (part.Substitution s))) (substitution-again s h)
  part-again fs r kind.Theorem (part.Name n) h = ap (map_outcome (λ n. with_part r (part.Name n))) (theorem-again n h)
  part-again fs r kind.Function (part.Name n) h = ap (map_outcome (λ n. with_part r (part.Name n))) (function-again n h)
  part-again fs r kind.Isomorphism (part.Name n) h = ap (map_outcome (λ n. with_part r (part.Name n))) (isomorphism-again n h)
  part-again fs r kind.Fact (part.Fact f) h = ap (map_outcome (λ f. with_part r (part.Fact f))) (fact-again f h)
  part-again fs r kind.Functions (part.Functions ps) h =
      ap (map_outcome (λ ps. with_part r (part.Functions ps))) (list_of-again (map pair_form ps) (each (function_pair W)) ∙ each-again (IsPair W) (function_pair W) pair_form pair-again ps h)
  part-again fs r k p h = absurd h

  -- forms that are read as these proofs
  abbrev AreReadAs : List Datum → List ProofTree → Type 0
  AreReadAs [] [] = Unit {0}
  AreReadAs [] (q ∷ qs) = ⊥
  AreReadAs (f ∷ fs) [] = ⊥
  AreReadAs (f ∷ fs) (q ∷ qs) = (proof_of W f ≡ Ok q) × AreReadAs fs qs

  cases-again : (c : CasesRead) (cs : List InductionCase) (fs : List Datum) (qs : List ProofTree) → Each (IsCase W) cs → length cs ≡ length qs → AreReadAs fs qs →
      cases_from W c (list_form (cases_forms cs fs)) ≡ Ok (record { cases = c.cases ++ cs; subproofs = c.subproofs ++ qs })
  cases-again c [] [] [] h n a = λ i. Ok (record { cases = sym (append-nil c.cases) i; subproofs = sym (append-nil c.subproofs) i })
  cases-again c [] (f ∷ fs) [] h n a = absurd a
  cases-again c [] fs (q ∷ qs) h n a = absurd (omega (arith, n))
  cases-again c (x ∷ cs) fs [] h n a = absurd (omega (arith, n))
  cases-again c (x ∷ cs) [] (q ∷ qs) h n a = absurd a
  cases-again c (x ∷ cs) (f ∷ fs) (q ∷ qs) h n a =
      let d : CasesRead = record { cases = c.cases ++ x ∷ []; subproofs = c.subproofs ++ q ∷ [] } in
      (λ i. and_then (and_then (term-again x.test h.0.0 i) (λ t. and_then (substitution-again x.subst h.0.1 i) (λ s. map_outcome (λ p. record { cases = c.cases ++ record { test = t; subst = s } ∷ []; subproofs = c.subproofs ++ p ∷ [] }) (a.0 i)))) (λ c. cases_from W c (list_form (cases_forms cs fs))))
      ∙ cases-again d cs fs qs h.1 (omega (arith, n)) a.1
      ∙ (λ i. Ok (record { cases = append_assoc c.cases (x ∷ []) cs i; subproofs = append_assoc c.subproofs (q ∷ []) qs i }))

  -- what is read of parts and proofs in their places
  abbrev all_read : Read → List Part → List ProofTree → Read
  all_read r ps qs = record { parts = r.parts ++ ps; subproofs = r.subproofs ++ qs }

  abbrev Again : List Kind → List Part → Type 0
  Again ks ps = (fs : List Datum) (qs : List ProofTree) (r : Read) → AreParts W ks ps (length qs) → AreReadAs fs qs → parts_from W r ks (list_form (laid ks ps fs)) ≡ Ok (all_read r ps qs)

  proof-first : (ks : List Kind) (ps : List Part) → Again ks ps → Again (kind.Proof ∷ ks) ps
  proof-first ks ps again fs [] r h a = absurd (omega (arith, h.0))
  proof-first ks ps again [] (q ∷ qs) r h a = absurd a
  proof-first ks ps again (f ∷ fs) (q ∷ qs) r h a =
      let m : suc (length qs) - 1 ≡ length qs = omega arith in
      ap (λ o. and_then (map_outcome (with_proof r) o) (λ r. parts_from W r ks (list_form (laid ks ps fs)))) a.0
      ∙ again fs qs (with_proof r q) (subst (AreParts W ks ps) m h.1) a.1
      ∙ (λ i. Ok (record { parts = r.parts ++ ps; subproofs = append_assoc r.subproofs (q ∷ []) qs i }))

  part-first : (k : Kind) (ks : List Kind) (p : Part) (ps : List Part) → is_proof k ≡ false → Again ks ps → (fs : List Datum) (qs : List ProofTree) (r : Read) →
      IsPart W k p → AreParts W ks ps (length qs) → AreReadAs fs qs → parts_from W r (k ∷ ks) (list_form (laid (k ∷ ks) (p ∷ ps) fs)) ≡ Ok (all_read r (p ∷ ps) qs)
  part-first k ks p ps e again fs qs r h g a =
      ap (λ b. parts_from W r (k ∷ ks) (list_form (if b then take 1 fs ++ laid ks (p ∷ ps) (drop 1 fs) else part_form fs p ∷ laid ks ps fs))) e
      ∙ ap (λ o. and_then o (λ r. parts_from W r ks (list_form (laid ks ps fs)))) (part-again fs r k p h)
      ∙ again fs qs (with_part r p) g a
      ∙ (λ i. Ok (record { parts = append_assoc r.parts (p ∷ []) ps i; subproofs = r.subproofs ++ qs }))

  cases-last : (ks : List Kind) (ps : List Part) (fs : List Datum) (qs : List ProofTree) (r : Read) → AreCases W ks ps (length qs) → AreReadAs fs qs →
      parts_from W r (kind.Cases ∷ ks) (list_form (laid (kind.Cases ∷ ks) ps fs)) ≡ Ok (all_read r ps qs)
  cases-last [] (part.Cases cs ∷ []) fs qs r h a =
      ap (λ o. and_then o (λ r. parts_from W r [] nil_form))
      (list_of-again (cases_forms cs fs) (λ forms. map_outcome (with_cases r) (cases_from W (no_cases r.subproofs) (list_form (cases_forms cs fs))))
      ∙ ap (map_outcome (with_cases r)) (cases-again (no_cases r.subproofs) cs fs qs h.0 h.1 a))
  cases-last ks ps fs qs r h a = absurd h

  parts-again : (ks : List Kind) (ps : List Part) → Again ks ps
  parts-again [] [] [] [] r h a = λ i. Ok (record { parts = sym (append-nil r.parts) i; subproofs = sym (append-nil r.subproofs) i })
  parts-again [] [] (f ∷ fs) [] r h a = absurd a
  parts-again [] [] fs (q ∷ qs) r h a = absurd (omega (arith, h))
  parts-again [] (p ∷ ps) fs qs r h a = absurd h
  parts-again (kind.Proof ∷ ks) ps fs qs r h a = proof-first ks ps (parts-again ks ps) fs qs r h a
  parts-again (kind.Cases ∷ ks) ps fs qs r h a = cases-last ks ps fs qs r h a
  parts-again (k ∷ ks) [] fs qs r h a = absurd h
  parts-again (k ∷ ks) (p ∷ ps) fs qs r h a = part-first k ks p ps refl (parts-again ks ps) fs qs r h.0 h.1 a

  -- as many forms as places
  laid-length : (ks : List Kind) (ps : List Part) (fs : List Datum) (n : ℕ) → n ≡ length fs → AreParts W ks ps n → length ks ≡ length (laid ks ps fs)
  laid-length [] ps fs n e h = refl
  laid-length (kind.Proof ∷ ks) ps [] n e h = absurd (omega (arith, e, h.0))
  laid-length (kind.Proof ∷ ks) ps (f ∷ fs) n e h = omega (arith, laid-length ks ps fs (n - 1) (omega (arith, e)) h.1)
  laid-length (kind.Cases ∷ []) (part.Cases cs ∷ []) fs n e h = refl
  laid-length (kind.Cases ∷ ks) ps fs n e h = absurd h
  laid-length (k ∷ ks) [] fs n e h = absurd h
  laid-length (k ∷ ks) (p ∷ ps) fs n e h = omega (arith, laid-length ks ps fs n e h.1)

  same-length : (fs : List Datum) (qs : List ProofTree) → AreReadAs fs qs → length qs ≡ length fs
  same-length [] [] a = refl
  same-length [] (q ∷ qs) a = absurd a
  same-length (f ∷ fs) [] a = absurd a
  same-length (f ∷ fs) (q ∷ qs) a = omega (arith, same-length fs qs a.1)

  word-again : (w : Word) (n : ℕ) → length (kinds_of w) ≡ n → word_at (word_form w) n ≡ Ok w
  word-again w n e =
      ap (word_by n) (words_found w) ∙ ap (λ b. if b then Ok w else bad_proof) (eq-eqb (length (kinds_of w)) n e)

  step-again : (s : Step) (fs : List Datum) (qs : List ProofTree) → AreParts W (kinds_of (word_for s)) (parts_of s) (length qs) → AreReadAs fs qs →
      proof_of W (step_form s fs) ≡ Ok (By s (trees qs))
  step-again s fs qs h a =
      let w = word_for s in
      let forms = laid (kinds_of w) (parts_of s) fs in
      list_tree W (word_form w ∷ forms)
      ∙ ap (λ o. and_then o (λ w. and_then (parts_from W nothing (kinds_of w) (list_form forms)) (tree_by w))) (word-again w (length forms) (laid-length (kinds_of w) (parts_of s) fs (length qs) (same-length fs qs a) h))
      ∙ ap (λ o. and_then o (tree_by w)) (parts-again (kinds_of w) (parts_of s) fs qs nothing h a)
      ∙ ap (λ o. map_outcome (λ s. By s (trees qs)) (or_bad o)) (steps_made s)

  trees-listed : (ps : Trees) → trees (listed ps) ≡ ps
  trees-listed NoMore = refl
  trees-listed (Also p ps) = ap (Also p) (trees-listed ps)

  mutual
    tree-again : (p : ProofTree) → IsReadable W p → proof_of W (form_of_proof p) ≡ Ok p
    tree-again (By s ps) h = step-again s (forms_of_proofs ps) (listed ps) h.0 (trees-again ps h.1) ∙ ap (λ ps. Ok (By s ps)) (trees-listed ps)

    trees-again : (ps : Trees) → AreReadable W ps → AreReadAs (forms_of_proofs ps) (listed ps)
    trees-again NoMore h = tt
    trees-again (Also p ps) h = (tree-again p h.0, trees-again ps h.1)

pub proofs_again : ProofsAreReadAgain
proofs_again W apart p h = record { read = λ n l t. (forms-again (form_of_proof p) t).read n l; proof = tree-again W apart p h }
