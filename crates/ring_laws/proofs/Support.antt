-- How many keys have a coefficient other than 0.
use Rattle.std.proofs.Common.{◌≡◌, suc, ◌≤◌, ◌&&◌, ◌||◌, not, Bool, true, false, cond, List, [], ◌∷◌, length, ℤ, pos, ◌+ℤ◌, refl, sym, ap, ap₂, ◌∙◌, arith}
use Rattle.std.specs.Cmp.{IsEquivalence}
use Rattle.std.specs.Ordering.{int_eq}
use Rattle.std.specs.List.{list_any, filter}
use Rattle.ring_laws.specs.FormalSums.{coefficient, distinct_keys, support}
use Rattle.ring_laws.proofs.Sums.{coefficient_same}

module _ (K : Type 0) (same : K → K → Bool) (laws : IsEquivalence same) where
  abbrev pub has : K → List K → Bool
  has k xs = list_any (same k) xs

  -- no key stands twice
  abbrev pub Apart : List K → Type 0
  Apart [] = Unit {0}
  Apart (x ∷ xs) = (has x xs ≡ false) × Apart xs

  -- one key taken out
  removed : K → List K → List K
  removed k [] = []
  removed k (x ∷ xs) = cond (same k x) xs (x ∷ removed k xs)

  removed-length : (k : K) (xs : List K) → has k xs ≡ true → length xs ≡ suc (length (removed k xs))
  unfolding removed
  removed-length k [] h = cc
  removed-length k (x ∷ xs) h = by_test (same k x) h (removed-length k xs)
    where
      by_test : (t : Bool) → (t || has k xs) ≡ true → (has k xs ≡ true → length xs ≡ suc (length (removed k xs))) → suc (length xs) ≡ suc (length (cond t xs (x ∷ removed k xs)))
      by_test true h' ih = refl
      by_test false h' ih = ap suc (ih h')

  removed-has : (k q : K) (xs : List K) → same k q ≡ false → has q xs ≡ true → has q (removed k xs) ≡ true
  unfolding removed
  removed-has k q [] a h = h
  removed-has k q (x ∷ xs) a h = by_test (same k x) refl (same q x) refl h (removed-has k q xs a)
    where
      by_test : (t : Bool) → same k x ≡ t → (u : Bool) → same q x ≡ u → (u || has q xs) ≡ true → (has q xs ≡ true → has q (removed k xs) ≡ true) → has q (cond t xs (x ∷ removed k xs)) ≡ true
      by_test true f true g h' ih = let c = laws.congr k x q f in let s = laws.symm x q in absurd (cc)
      by_test true f false g h' ih = h'
      by_test false f true g h' ih = ap (λ b. b || has q (removed k xs)) g
      by_test false f false g h' ih = ap (λ b. b || has q (removed k xs)) g ∙ ih h'

  apart_from : (x k : K) (xs : List K) → has x xs ≡ false → has k xs ≡ true → same x k ≡ false
  apart_from x k [] n h = cc
  apart_from x k (y ∷ xs) n h = by_test (same x y) refl n (same k y) refl h (λ m i. apart_from x k xs m i)
    where
      by_test : (t : Bool) → same x y ≡ t → (t || has x xs) ≡ false → (u : Bool) → same k y ≡ u → (u || has k xs) ≡ true → (has x xs ≡ false → has k xs ≡ true → same x k ≡ false) → same x k ≡ false
      by_test true f n' u g h' ih = cc
      by_test false f n' true g h' ih = let c = laws.congr k y x g in let s = laws.symm x k in let r = laws.symm x y in cc
      by_test false f n' false g h' ih = ih n' h'

  -- keys of which none stands twice, all in another list, are no more
  pub no_more : (xs ys : List K) → Apart xs → ((k : K) → has k xs ≡ true → has k ys ≡ true) → length xs ≤ length ys
  no_more [] ys a h = omega arith
  no_more (x ∷ xs) ys a h =
      let here : has x ys ≡ true = h x (ap (λ b. b || has x xs) (laws.refl x)) in
      let l = removed-length x ys here in
      let r = no_more xs (removed x ys) a.1 (λ k i. removed-has x k ys (apart_from x k xs a.0 i) (h k (later k i))) in
      omega arith
    where
      or_true : (s t : Bool) → t ≡ true → (s || t) ≡ true
      or_true true t e = refl
      or_true false t e = e

      later : (k : K) → has k xs ≡ true → has k (x ∷ xs) ≡ true
      later k i = or_true (same k x) (has k xs) i

  pub as_many : (xs ys : List K) → Apart xs → Apart ys → ((k : K) → has k xs ≡ has k ys) → length xs ≡ length ys
  as_many xs ys a b h =
      let l = no_more xs ys a (λ k i. sym (h k) ∙ i) in
      let r = no_more ys xs b (λ k i. h k ∙ i) in
      omega arith

  has_same : (k q : K) (xs : List K) → same k q ≡ true → has k xs ≡ has q xs
  has_same k q [] e = refl
  has_same k q (x ∷ xs) e = ap₂ (λ s t. s || t) (laws.congr k q x e) (has_same k q xs e)

  has_key_same : (k q : K) (es : List (K × ℤ)) → same k q ≡ true → list_any (λ f. same k f.0) es ≡ list_any (λ f. same q f.0) es
  has_key_same k q [] e = refl
  has_key_same k q (x ∷ es) e = ap₂ (λ s t. s || t) (laws.congr k q x.0 e) (has_key_same k q es e)

  -- distinct keys are the keys
  distinct-has : (k : K) (es : List (K × ℤ)) → has k (distinct_keys same es) ≡ list_any (λ f. same k f.0) es
  distinct-has k [] = refl
  distinct-has k (e ∷ es) = by_test (list_any (λ f. same e.0 f.0) es) refl (same k e.0) refl (distinct-has k es)
    where
      by_test : (t : Bool) → list_any (λ f. same e.0 f.0) es ≡ t → (u : Bool) → same k e.0 ≡ u → has k (distinct_keys same es) ≡ list_any (λ f. same k f.0) es → has k (cond t (distinct_keys same es) (e.0 ∷ distinct_keys same es)) ≡ (u || list_any (λ f. same k f.0) es)
      by_test true f true g ih = ih ∙ has_key_same k e.0 es g ∙ f
      by_test true f false g ih = ih
      by_test false f u g ih = ap₂ (λ s t. s || t) g ih

  distinct-apart : (es : List (K × ℤ)) → Apart (distinct_keys same es)
  distinct-apart [] = tt
  distinct-apart (e ∷ es) = by_test (list_any (λ f. same e.0 f.0) es) refl (distinct-apart es)
    where
      by_test : (t : Bool) → list_any (λ f. same e.0 f.0) es ≡ t → Apart (distinct_keys same es) → Apart (cond t (distinct_keys same es) (e.0 ∷ distinct_keys same es))
      by_test true f ih = ih
      by_test false f ih = (distinct-has e.0 es ∙ f, ih)

  module _ (p : K → Bool) (respects : (k q : K) → same k q ≡ true → p k ≡ p q) where
    filter-has : (k : K) (xs : List K) → has k (filter p xs) ≡ (p k && has k xs)
    filter-has k [] = none (p k)
      where
        none : (t : Bool) → false ≡ (t && false)
        none true = refl
        none false = refl
    filter-has k (x ∷ xs) = by_test (p x) refl (same k x) refl (p k) refl (filter-has k xs)
      where
        by_test : (t : Bool) → p x ≡ t → (u : Bool) → same k x ≡ u → (v : Bool) → p k ≡ v → has k (filter p xs) ≡ (p k && has k xs) → has k (cond t (x ∷ filter p xs) (filter p xs)) ≡ (v && (u || has k xs))
        by_test true f true g true i ih = ap (λ b. b || has k (filter p xs)) g
        by_test true f true g false i ih = let r = respects k x g in absurd (cc)
        by_test true f false g v i ih = ap (λ b. b || has k (filter p xs)) g ∙ ih ∙ ap (λ b. b && has k xs) i
        by_test false f true g true i ih = let r = respects k x g in absurd (cc)
        by_test false f true g false i ih = ih ∙ ap (λ b. b && has k xs) i
        by_test false f false g v i ih = ih ∙ ap (λ b. b && has k xs) i

    filter-lacks : (k : K) (xs : List K) → has k xs ≡ false → has k (filter p xs) ≡ false
    filter-lacks k xs n = filter-has k xs ∙ ap (λ b. p k && b) n ∙ none (p k)
      where
        none : (t : Bool) → (t && false) ≡ false
        none true = refl
        none false = refl

    filter-apart : (xs : List K) → Apart xs → Apart (filter p xs)
    filter-apart [] a = tt
    filter-apart (x ∷ xs) a = by_test (p x) (filter-apart xs a.1)
      where
        by_test : (t : Bool) → Apart (filter p xs) → Apart (cond t (x ∷ filter p xs) (filter p xs))
        by_test true ih = (filter-lacks x xs a.0, ih)
        by_test false ih = ih

  abbrev pub nonzero : List (K × ℤ) → K → Bool
  nonzero es k = not (int_eq (coefficient same es k) (pos 0))

  nonzero-same : (es : List (K × ℤ)) (k q : K) → same k q ≡ true → nonzero es k ≡ nonzero es q
  nonzero-same es k q e = ap (λ x. not (int_eq x (pos 0))) (coefficient_same K same laws k q e es)

  -- where no entry has the key the coefficient is 0
  lacking : (k : K) (es : List (K × ℤ)) → list_any (λ f. same k f.0) es ≡ false → coefficient same es k ≡ pos 0
  lacking k [] n = refl
  lacking k (e ∷ es) n = by_test (same k e.0) refl n (lacking k es)
    where
      by_test : (t : Bool) → same k e.0 ≡ t → (t || list_any (λ f. same k f.0) es) ≡ false → (list_any (λ f. same k f.0) es ≡ false → coefficient same es k ≡ pos 0) → cond (same e.0 k) (e.1 +ℤ coefficient same es k) (coefficient same es k) ≡ pos 0
      by_test true f n' ih = cc
      by_test false f n' ih = ap (λ t. cond t (e.1 +ℤ coefficient same es k) (coefficient same es k)) (laws.symm e.0 k ∙ f) ∙ ih n'

  -- the support has a key exactly where its coefficient isn't 0
  pub support-has : (k : K) (es : List (K × ℤ)) → has k (support same es) ≡ nonzero es k
  support-has k es =
      filter-has (nonzero es) (nonzero-same es) k (distinct_keys same es)
      ∙ ap (λ b. nonzero es k && b) (distinct-has k es)
      ∙ by_test (list_any (λ f. same k f.0) es) refl
    where
      both : (t : Bool) → (t && true) ≡ t
      both true = refl
      both false = refl

      by_test : (t : Bool) → list_any (λ f. same k f.0) es ≡ t → (nonzero es k && t) ≡ nonzero es k
      by_test true f = both (nonzero es k)
      by_test false f = let z : nonzero es k ≡ false = ap (λ x. not (int_eq x (pos 0))) (lacking k es f) in ap (λ b. b && false) z ∙ sym z

  pub support-apart : (es : List (K × ℤ)) → Apart (support same es)
  support-apart es = filter-apart (nonzero es) (nonzero-same es) (distinct_keys same es) (distinct-apart es)

  -- sums with the same coefficients have as many keys with one other than 0
  pub same_size : (es fs : List (K × ℤ)) → ((k : K) → coefficient same es k ≡ coefficient same fs k) → length (support same es) ≡ length (support same fs)
  same_size es fs h =
      as_many (support same es) (support same fs) (support-apart es) (support-apart fs)
      (λ k. support-has k es ∙ ap (λ x. not (int_eq x (pos 0))) (h k) ∙ sym (support-has k fs))
