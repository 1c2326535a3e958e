-- Coefficients of formal sums, and what the sums weigh.
use Rattle.std.proofs.Common.{◌≡◌, ℕ, zero, suc, ◌≤◌, Bool, true, false, cond, List, [], ◌∷◌, ◌++◌, length, ℤ, pos, ◌+ℤ◌, ◌*ℤ◌, neg_ℤ, refl, sym, ap, ap₂, ◌∙◌, arith}
use Rattle.std.proofs.Math.IntN.{zero-*ℤ, +ℤ_idl, +ℤ_assoc, +ℤ_comm, +ℤ_invr, neg_ℤ-+ℤ}
use Rattle.std.proofs.lemmas.Bool.{and_parts, and_from}
use Rattle.std.proofs.lemmas.Bool.Decides.{Decides-int_eq}
use Rattle.std.specs.Cmp.{IsEquivalence}
use Rattle.std.specs.Ordering.{int_eq}
use Rattle.std.specs.List.{list_all}
use Rattle.ring_laws.specs.FormalSums.{coefficient, coefficients_agree, negated}
use Rattle.ring_laws.proofs.Integers.{sum-product, product-neg, same_sum}

module _ (K : Type 0) (same : K → K → Bool) where
  pub coefficient-append : (ds es : List (K × ℤ)) (k : K) → coefficient same (ds ++ es) k ≡ coefficient same ds k +ℤ coefficient same es k
  coefficient-append [] es k = sym (+ℤ_idl (coefficient same es k))
  coefficient-append (d ∷ ds) es k = by_test (same d.0 k) (coefficient-append ds es k)
    where
      by_test : (t : Bool) → coefficient same (ds ++ es) k ≡ coefficient same ds k +ℤ coefficient same es k → cond t (d.1 +ℤ coefficient same (ds ++ es) k) (coefficient same (ds ++ es) k) ≡ cond t (d.1 +ℤ coefficient same ds k) (coefficient same ds k) +ℤ coefficient same es k
      by_test true ih = ap (λ x. d.1 +ℤ x) ih ∙ sym (+ℤ_assoc d.1 (coefficient same ds k) (coefficient same es k))
      by_test false ih = ih

  pub coefficient-negated : (es : List (K × ℤ)) (k : K) → coefficient same (negated es) k ≡ neg_ℤ (coefficient same es k)
  coefficient-negated [] k = refl
  coefficient-negated (e ∷ es) k = by_test (same e.0 k) (coefficient-negated es k)
    where
      by_test : (t : Bool) → coefficient same (negated es) k ≡ neg_ℤ (coefficient same es k) → cond t (neg_ℤ e.1 +ℤ coefficient same (negated es) k) (coefficient same (negated es) k) ≡ neg_ℤ (cond t (e.1 +ℤ coefficient same es k) (coefficient same es k))
      by_test true ih = ap (λ x. neg_ℤ e.1 +ℤ x) ih ∙ sym (neg_ℤ-+ℤ e.1 (coefficient same es k))
      by_test false ih = ih

  -- factors times what their keys weigh
  module _ (h : K → ℤ) where
    pub weighted : List (K × ℤ) → ℤ
    weighted [] = pos 0
    weighted (e ∷ es) = e.1 *ℤ h e.0 +ℤ weighted es

    pub weighted-more : (e : K × ℤ) (es : List (K × ℤ)) → weighted (e ∷ es) ≡ e.1 *ℤ h e.0 +ℤ weighted es
    unfolding weighted
    weighted-more e es = refl

    pub weighted-none : weighted [] ≡ pos 0
    unfolding weighted
    weighted-none = refl

    pub weighted-append : (ds es : List (K × ℤ)) → weighted (ds ++ es) ≡ weighted ds +ℤ weighted es
    unfolding weighted
    weighted-append [] es = sym (+ℤ_idl (weighted es))
    weighted-append (d ∷ ds) es = ap (λ x. d.1 *ℤ h d.0 +ℤ x) (weighted-append ds es) ∙ sym (+ℤ_assoc (d.1 *ℤ h d.0) (weighted ds) (weighted es))

    pub weighted-negated : (es : List (K × ℤ)) → weighted (negated es) ≡ neg_ℤ (weighted es)
    unfolding weighted
    weighted-negated [] = refl
    weighted-negated (e ∷ es) =
        ap₂ (λ x y. x +ℤ y) (product-neg e.1 (h e.0)) (weighted-negated es) ∙ sym (neg_ℤ-+ℤ (e.1 *ℤ h e.0) (weighted es))

  module _ (laws : IsEquivalence same) where
    same_right : (k m x : K) → same k m ≡ true → same x k ≡ same x m
    same_right k m x e = laws.symm x k ∙ laws.congr k m x e ∙ sym (laws.symm x m)

    -- a coefficient is the same at keys that are the same
    pub coefficient_same : (k m : K) → same k m ≡ true → (es : List (K × ℤ)) → coefficient same es k ≡ coefficient same es m
    coefficient_same k m s [] = refl
    coefficient_same k m s (e ∷ es) = ap₂ (λ t x. cond t (e.1 +ℤ x) x) (same_right k m e.0 s) (coefficient_same k m s es)

    -- the entries at other keys than k
    others : K → List (K × ℤ) → List (K × ℤ)
    others k [] = []
    others k (e ∷ es) = cond (same e.0 k) (others k es) (e ∷ others k es)

    others-length : (k : K) (es : List (K × ℤ)) → length (others k es) ≤ length es
    unfolding others
    others-length k [] = omega arith
    others-length k (e ∷ es) = by_test (same e.0 k) (others-length k es)
      where
        by_test : (t : Bool) → length (others k es) ≤ length es → length (cond t (others k es) (e ∷ others k es)) ≤ suc (length es)
        by_test true h = omega arith
        by_test false h = omega arith

    others-none : (k m : K) → same k m ≡ true → (es : List (K × ℤ)) → coefficient same (others k es) m ≡ pos 0
    unfolding others
    others-none k m s [] = refl
    others-none k m s (e ∷ es) = by_test (same e.0 k) refl (others-none k m s es)
      where
        by_test : (t : Bool) → same e.0 k ≡ t → coefficient same (others k es) m ≡ pos 0 → coefficient same (cond t (others k es) (e ∷ others k es)) m ≡ pos 0
        by_test true f ih = ih
        by_test false f ih = ap (λ x. cond x (e.1 +ℤ coefficient same (others k es) m) (coefficient same (others k es) m)) (sym (same_right k m e.0 s) ∙ f) ∙ ih

    others-same : (k m : K) → same k m ≡ false → (es : List (K × ℤ)) → coefficient same (others k es) m ≡ coefficient same es m
    unfolding others
    others-same k m s [] = refl
    others-same k m s (e ∷ es) = by_test (same e.0 k) refl (others-same k m s es)
      where
        by_test : (t : Bool) → same e.0 k ≡ t → coefficient same (others k es) m ≡ coefficient same es m → coefficient same (cond t (others k es) (e ∷ others k es)) m ≡ cond (same e.0 m) (e.1 +ℤ coefficient same es m) (coefficient same es m)
        by_test true f ih = ih ∙ ap (λ x. cond x (e.1 +ℤ coefficient same es m) (coefficient same es m)) (sym (laws.congr e.0 k m f ∙ s))
        by_test false f ih = ap (λ x. cond (same e.0 m) (e.1 +ℤ x) x) ih

    module _ (h : K → ℤ) (respects : (k m : K) → same k m ≡ true → h k ≡ h m) where
      -- the entries at k, and the others
      parted : (k : K) (es : List (K × ℤ)) → weighted h es ≡ coefficient same es k *ℤ h k +ℤ weighted h (others k es)
      unfolding weighted others
      parted k [] = sym (ap (λ x. x +ℤ pos 0) (zero-*ℤ (h k)))
      parted k (e ∷ es) = by_test (same e.0 k) refl (parted k es)
        where
          by_test : (t : Bool) → same e.0 k ≡ t → weighted h es ≡ coefficient same es k *ℤ h k +ℤ weighted h (others k es) → e.1 *ℤ h e.0 +ℤ weighted h es ≡ cond t (e.1 +ℤ coefficient same es k) (coefficient same es k) *ℤ h k +ℤ weighted h (cond t (others k es) (e ∷ others k es))
          by_test true f ih =
              ap₂ (λ x y. e.1 *ℤ x +ℤ y) (respects e.0 k f) ih
              ∙ sym (+ℤ_assoc (e.1 *ℤ h k) (coefficient same es k *ℤ h k) (weighted h (others k es)))
              ∙ ap (λ x. x +ℤ weighted h (others k es)) (sym (sum-product e.1 (coefficient same es k) (h k)))
          by_test false f ih =
              ap (λ y. e.1 *ℤ h e.0 +ℤ y) ih
              ∙ sym (+ℤ_assoc (e.1 *ℤ h e.0) (coefficient same es k *ℤ h k) (weighted h (others k es)))
              ∙ ap (λ x. x +ℤ weighted h (others k es)) (+ℤ_comm (e.1 *ℤ h e.0) (coefficient same es k *ℤ h k))
              ∙ +ℤ_assoc (coefficient same es k *ℤ h k) (e.1 *ℤ h e.0) (weighted h (others k es))

      -- a sum whose coefficients are all 0 weighs nothing
      pub vanishes : (n : ℕ) (es : List (K × ℤ)) → length es ≤ n → ((m : K) → coefficient same es m ≡ pos 0) → weighted h es ≡ pos 0
      unfolding weighted others
      vanishes n [] le z = refl
      vanishes zero (e ∷ es) le z = absurd (omega arith)
      vanishes (suc n) (e ∷ es) le z =
          let k = e.0 in
          let less = others-length k es in
          let rest = vanishes n (others k es) (omega arith) (λ m. by_key m (same k m) refl) in
          let c : e.1 +ℤ coefficient same es k ≡ pos 0 = ap (λ x. cond x (e.1 +ℤ coefficient same es k) (coefficient same es k)) (sym (laws.refl k)) ∙ z k in
          ap (λ x. e.1 *ℤ h k +ℤ x) (parted k es)
          ∙ sym (+ℤ_assoc (e.1 *ℤ h k) (coefficient same es k *ℤ h k) (weighted h (others k es)))
          ∙ ap₂ (λ x y. x +ℤ y) (sym (sum-product e.1 (coefficient same es k) (h k)) ∙ ap (λ x. x *ℤ h k) c ∙ zero-*ℤ (h k)) rest
        where
          by_key : (m : K) (t : Bool) → same e.0 m ≡ t → coefficient same (others e.0 es) m ≡ pos 0
          by_key m true f = others-none e.0 m f es
          by_key m false f = others-same e.0 m f es ∙ ap (λ x. cond x (e.1 +ℤ coefficient same es m) (coefficient same es m)) (sym f) ∙ z m

      -- sums with the same coefficients weigh the same
      pub same_weight : (ds es : List (K × ℤ)) → ((m : K) → coefficient same ds m ≡ coefficient same es m) → weighted h ds ≡ weighted h es
      same_weight ds es c =
          let all = ds ++ negated es in
          let none = λ (m : K).
          coefficient-append ds (negated es) m
          ∙ ap₂ (λ x y. x +ℤ y) (c m) (coefficient-negated es m)
          ∙ +ℤ_invr (coefficient same es m) in
          let s = weighted-append h ds (negated es) ∙ ap (λ x. weighted h ds +ℤ x) (weighted-negated h es) in
          same_sum (weighted h ds) (weighted h es) (sym s ∙ vanishes (length all) all (omega arith) none)

    -- the entries have other keys than m
    abbrev Lacks : K → List (K × ℤ) → Type 0
    Lacks m [] = Unit {0}
    Lacks m (e ∷ es) = (same e.0 m ≡ false) × Lacks m es

    coefficient_lacking : (m : K) (es : List (K × ℤ)) → Lacks m es → coefficient same es m ≡ pos 0
    coefficient_lacking m [] l = refl
    coefficient_lacking m (e ∷ es) l = ap (λ t. cond t (e.1 +ℤ coefficient same es m) (coefficient same es m)) l.0 ∙ coefficient_lacking m es l.1

    lacks_parts : (m : K) (es fs : List (K × ℤ)) → Lacks m (es ++ fs) → Lacks m es × Lacks m fs
    lacks_parts m [] fs l = (tt, l)
    lacks_parts m (e ∷ es) fs l = let p = lacks_parts m es fs l.1 in ((l.0, p.0), p.1)

    abbrev Agrees : List (K × ℤ) → List (K × ℤ) → K → Type 0
    Agrees es fs m = coefficient same es m ≡ coefficient same fs m

    -- an entry has the key m, or none of them has
    agrees_from : (es fs rest : List (K × ℤ)) (m : K) → list_all (λ e. int_eq (coefficient same es e.0) (coefficient same fs e.0)) rest ≡ true → (Lacks m rest → Agrees es fs m) → Agrees es fs m
    agrees_from es fs [] m h k = k tt
    agrees_from es fs (e ∷ rest) m h k =
        let p = and_parts (int_eq (coefficient same es e.0) (coefficient same fs e.0)) _ h in
        by_test (same e.0 m) refl p.0 (λ l. agrees_from es fs rest m p.1 l) k
      where
        by_test : (t : Bool) → same e.0 m ≡ t → int_eq (coefficient same es e.0) (coefficient same fs e.0) ≡ true → ((Lacks m rest → Agrees es fs m) → Agrees es fs m) → ((same e.0 m ≡ false) × Lacks m rest → Agrees es fs m) → Agrees es fs m
        by_test true f i go k' = sym (coefficient_same e.0 m f es) ∙ (Decides-int_eq _ _).0 i ∙ coefficient_same e.0 m f fs
        by_test false f i go k' = go (λ l. k' (f, l))

    agree_at : (es fs rest : List (K × ℤ)) → ((m : K) → Agrees es fs m) → list_all (λ e. int_eq (coefficient same es e.0) (coefficient same fs e.0)) rest ≡ true
    agree_at es fs [] h = refl
    agree_at es fs (e ∷ rest) h = and_from _ _ ((Decides-int_eq _ _).1 (h e.0)) (agree_at es fs rest h)

    -- the test at the keys of the two decides it at every key
    pub agreement : (es fs : List (K × ℤ)) → (coefficients_agree same es fs ≡ true → (m : K) → Agrees es fs m) × (((m : K) → Agrees es fs m) → coefficients_agree same es fs ≡ true)
    agreement es fs = (
      λ h m. agrees_from es fs (es ++ fs) m h (λ l. let p = lacks_parts m es fs l in coefficient_lacking m es p.0 ∙ sym (coefficient_lacking m fs p.1)),
      agree_at es fs (es ++ fs),
    )
