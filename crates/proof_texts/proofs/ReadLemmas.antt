-- The proofs of texts, one form at a time.
use Rattle.std.proofs.Common.{take, ◌-◌, ◌+◌, ◌≡◌, ℕ, zero, suc, ◌<◌, ◌≤◌, true, false, Bool, List, [], ◌∷◌, length, get_or, map, drop, bytes_eq, codes, Option, Some, None, option_map, if◌then◌else◌, Ok, Err, refl, ap, sym, subst, ◌∙◌, arith}
use native.Mathlib.Numerals.{unary_clauses}
use Rattle.std.proofs.Math.Seq.{take-length}
use Rattle.std.proofs.lemmas.List.{drop_all}
use Rattle.lisp_data.specs.Values.{Name}
use Rattle.lisp_data.specs.Datum.{Datum, IntForm, SymForm, TextForm, PairForm, depth, deepest, chain, nil_form}
use Rattle.lisp_data.specs.FormView.{form_of}
use Rattle.lisp_data.specs.declared.form.Form.{Form}
use Rattle.terms.specs.Worlds.{World}
use Rattle.term_forms.specs.Translation.{Outcome, and_then}
use Rattle.terms.proofs.Names.{same_name}
use Rattle.proof_texts.specs.Items.{items_of, symbol_of}
use Rattle.proof_texts.specs.Refused.{bad_proof, or_bad, IsRefusal}
use Rattle.proof_texts.specs.Words.{kinds_of}
use Rattle.proof_texts.specs.ProofTexts.{Read, nothing, word_before, word_at, tree_by, proof_of, parts_from, cases_from, third, part_at, case_after, case_at, cases_at, case_of_list, no_cases, tree_of_list}
use Rattle.proof_texts.specs.declared.read.CasesRead.{CasesRead}
use Rattle.proof_texts.specs.declared.words.Kind.{Kind}
use Rattle.proof_texts.specs.declared.errors.ProofError.{ProofError}
use Rattle.proof_texts.specs.declared.errors.ProofError.TheVariants.{Refused, Memory}
use Rattle.proof_texts.proofs.ItemLemmas.{items_of-chain, proper_at}

-- a form by its items
pub chain-items : (f : Datum) (xs : List Datum) → items_of f ≡ Some xs → f ≡ chain xs nil_form
chain-items (IntForm z) xs e = absurd (cc)
chain-items (SymForm s) xs e = by_test (bytes_eq s (codes "NIL")) refl e
  where
    by_test : (b : Bool) → bytes_eq s (codes "NIL") ≡ b → (if b then Some [] else None) ≡ Some xs → SymForm s ≡ chain xs nil_form
    by_test true t e' = let n : [] ≡ xs = cc in ap SymForm (same_name s (codes "NIL") t) ∙ ap (λ zs. chain zs nil_form) n
    by_test false t e' = absurd (cc)
chain-items (TextForm s) xs e = absurd (cc)
chain-items (PairForm a d) xs e = by_rest (items_of d) e (λ ys q. chain-items d ys q) refl
  where
    by_rest : (o : Option (List Datum)) → option_map (λ items. a ∷ items) o ≡ Some xs → ((ys : List Datum) → items_of d ≡ Some ys → d ≡ chain ys nil_form) → items_of d ≡ o → PairForm a d ≡ chain xs nil_form
    by_rest None e' ih q = absurd (cc)
    by_rest (Some ys) e' ih q =
        let n : a ∷ ys ≡ xs = cc in
        ap (PairForm a) (ih ys q) ∙ ap (λ zs. chain zs nil_form) n

module _ (W : World) where
  pub list_tree : (xs : List Datum) → proof_of W (chain xs nil_form) ≡ tree_of_list W xs
  list_tree [] = refl
  list_tree (x ∷ xs) = ap (λ o. and_then (word_before x o) (λ w. and_then (parts_from W nothing (kinds_of w) (chain xs nil_form)) (tree_by w))) (items_of-chain xs)

  pub proof_of-items : (f : Datum) (xs : List Datum) → items_of f ≡ Some xs → proof_of W f ≡ tree_of_list W xs
  proof_of-items f xs e = ap (proof_of W) (chain-items f xs e) ∙ list_tree xs

  pub proof_of-none : (f : Datum) → items_of f ≡ None → proof_of W f ≡ bad_proof
  proof_of-none (IntForm z) e = refl
  proof_of-none (SymForm s) e = refl
  proof_of-none (TextForm s) e = refl
  proof_of-none (PairForm a d) e = by_rest (items_of d) e
    where
      by_rest : (o : Option (List Datum)) → option_map (λ items. a ∷ items) o ≡ None → and_then (word_before a o) (λ w. and_then (parts_from W nothing (kinds_of w) d) (tree_by w)) ≡ bad_proof
      by_rest None e' = refl
      by_rest (Some forms) e' = absurd (cc)

  -- the parts from a place on
  abbrev pub parts_left : Read → List Kind → List Form → ℕ → Outcome Read
  parts_left r ks fs i = parts_from W r (drop i ks) (chain (map form_of (drop i fs)) nil_form)

  no_more : (r : Read) (d : Datum) → parts_from W r [] d ≡ Ok r
  no_more r (IntForm z) = refl
  no_more r (SymForm s) = refl
  no_more r (TextForm s) = refl
  no_more r (PairForm a d) = refl

  parts-step : (r : Read) (ks : List Kind) (fs : List Form) (i : ℕ) (k : Kind) (f : Form) → i < length ks → i < length fs →
      parts_left r ks fs i ≡ and_then (part_at W r (get_or ks i k) (form_of (get_or fs i f))) (λ r. parts_left r ks fs (i + 1))
  parts-step r [] fs i k f h g = absurd (omega arith)
  parts-step r (x ∷ ks) [] i k f h g = absurd (omega arith)
  parts-step r (x ∷ ks) (y ∷ fs) zero k f h g = refl
  parts-step r (x ∷ ks) (y ∷ fs) (suc i) k f h g = simp unary_clauses (simp unary_clauses at (parts-step r ks fs i k f (omega arith) (omega arith)))

  pub parts-more : (r s : Read) (ks : List Kind) (fs : List Form) (i : ℕ) (k : Kind) (f : Form) → i < length ks → i < length fs →
      part_at W r (get_or ks i k) (form_of (get_or fs i f)) ≡ Ok s → parts_left s ks fs (i + 1) ≡ parts_left r ks fs i
  parts-more r s ks fs i k f h g e = ap (λ o. and_then o (λ r. parts_left r ks fs (i + 1))) (sym e) ∙ sym (parts-step r ks fs i k f h g)

  pub parts-refused : (r : Read) (ks : List Kind) (fs : List Form) (i : ℕ) (k : Kind) (f : Form) (e : ProofError) → i < length ks → i < length fs →
      parts_left r ks fs i ≡ parts_left nothing ks fs 0 → IsRefusal (part_at W r (get_or ks i k) (form_of (get_or fs i f))) e → IsRefusal (parts_left nothing ks fs 0) e
  parts-refused r ks fs i k f (Refused code detail) h g e q =
      sym e ∙ parts-step r ks fs i k f h g ∙ ap (λ o. and_then o (λ r. parts_left r ks fs (i + 1))) q
  parts-refused r ks fs i k f Memory h g e q = tt

  pub parts-end : (r : Read) (ks : List Kind) (fs : List Form) (i : ℕ) → length ks ≤ i → parts_left r ks fs i ≡ Ok r
  parts-end r ks fs i h = ap (λ zs. parts_from W r zs (chain (map form_of (drop i fs)) nil_form)) (drop_all i ks h) ∙ no_more r (chain (map form_of (drop i fs)) nil_form)

  third-list : (xs : List Datum) (c : CasesRead) → case_after W c (Some xs) (third W (chain xs nil_form)) ≡ case_of_list W c xs
  third-list [] c = refl
  third-list (q ∷ []) c = refl
  third-list (q ∷ s ∷ []) c = refl
  third-list (q ∷ s ∷ p ∷ []) c = refl
  third-list (q ∷ s ∷ p ∷ x ∷ xs) c = refl

  pub case_at-items : (d : Datum) (xs : List Datum) (c : CasesRead) → items_of d ≡ Some xs → case_at W c d ≡ case_of_list W c xs
  case_at-items d xs c e =
      ap (λ o. case_after W c o (third W d)) e ∙ ap (λ d. case_after W c (Some xs) (third W d)) (chain-items d xs e) ∙ third-list xs c

  pub case_at-none : (d : Datum) (c : CasesRead) → items_of d ≡ None → case_at W c d ≡ bad_proof
  case_at-none d c e = ap (λ o. case_after W c o (third W d)) e

  pub cases_at-items : (d : Datum) (xs : List Datum) (ps : List _) → items_of d ≡ Some xs → cases_at W ps d ≡ cases_from W (no_cases ps) (chain xs nil_form)
  cases_at-items d xs ps e =
      ap (λ o. and_then (or_bad o) (λ forms. cases_from W (no_cases ps) d)) e ∙ ap (cases_from W (no_cases ps)) (chain-items d xs e)

  pub cases_at-none : (d : Datum) (ps : List _) → items_of d ≡ None → cases_at W ps d ≡ bad_proof
  cases_at-none d ps e = ap (λ o. and_then (or_bad o) (λ forms. cases_from W (no_cases ps) d)) e

-- the items of a form are less deep than the form
pub deepest_le-items : (f : Datum) (xs : List Datum) → items_of f ≡ Some xs → deepest xs ≤ depth f
deepest_le-items (IntForm z) xs e = absurd (cc)
deepest_le-items (SymForm s) xs e = by_test (bytes_eq s (codes "NIL")) e
  where
    by_test : (b : Bool) → (if b then Some [] else None) ≡ Some xs → deepest xs ≤ 0
    by_test true e' = let n : [] ≡ xs = cc in subst (λ (zs : List Datum). deepest zs ≤ 0) n (omega arith)
    by_test false e' = absurd (cc)
deepest_le-items (TextForm s) xs e = absurd (cc)
deepest_le-items (PairForm a d) xs e = by_rest (items_of d) refl e (λ ys q. deepest_le-items d ys q)
  where
    by_rest : (o : Option (List Datum)) → items_of d ≡ o → option_map (λ items. a ∷ items) o ≡ Some xs → ((ys : List Datum) → items_of d ≡ Some ys → deepest ys ≤ depth d) → deepest xs ≤ depth (PairForm a d)
    by_rest None q e' ih = absurd (cc)
    by_rest (Some ys) q e' ih =
        let n : a ∷ ys ≡ xs = cc in
        let h = ih ys q in
        subst (λ (zs : List Datum). deepest zs ≤ depth (PairForm a d)) n (omega arith)

-- the parts of a rule are no deeper than its form's items
pub deepest-parts : (items : List Form) → deepest (map form_of (take (length items - 1) (drop 1 items))) ≤ deepest (map form_of items)
deepest-parts [] = omega arith
deepest-parts (x ∷ items) =
    let m : length (x ∷ items) - 1 ≡ length items = omega arith in
    let all : take (length (x ∷ items) - 1) items ≡ items = ap (λ m. take m items) m ∙ take-length items in
    omega (arith, ap (λ ps. deepest (map form_of ps)) all)

pub deepest-get_or : (xs : List Form) (i : ℕ) (d : Form) → i < length xs → depth (form_of (get_or xs i d)) < deepest (map form_of xs)
deepest-get_or [] i d h = absurd (omega arith)
deepest-get_or (x ∷ xs) zero d h = omega arith
deepest-get_or (x ∷ xs) (suc i) d h = omega (arith, deepest-get_or xs i d (omega arith))

pub ruleset trees_read = (proof_of-items, proof_of-none, deepest_le-items, deepest-parts, deepest-get_or)

pub ruleset parts_read = (parts-more, parts-refused, parts-end, deepest-get_or, proper_at)

pub ruleset cases_read = (case_at-items, case_at-none, cases_at-items, cases_at-none, deepest_le-items, deepest-get_or, proper_at)
