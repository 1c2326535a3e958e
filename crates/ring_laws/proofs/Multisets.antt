-- Lists of atoms as multisets, and the products of their atoms.
use Rattle.std.proofs.Common.{◌≡◌, ℕ, suc, ◌+◌, Bool, true, false, cond, List, [], ◌∷◌, ◌++◌, ℤ, pos, ◌⊎◌, inl, inr, ⊎_elim, ◌*ℤ◌, nat_eq, refl, sym, ap, ◌∙◌, subst, arith}
use Rattle.std.proofs.Math.IntN.{*ℤ_comm}
use Rattle.std.proofs.lemmas.Bool.{and_parts, and_from, eqb-true, eq-eqb}
use Rattle.std.specs.Cmp.{IsEquivalence}
use Rattle.std.specs.List.{list_all}
use Rattle.terms.specs.Terms.{Tm, same_tm}
use Rattle.terms.proofs.Same.{same_term, term_self}
use Rattle.ring_laws.specs.Polynomials.{count_in, alike}
use Rattle.ring_laws.proofs.Integers.{product-assoc, one-product}

pub count-append : (a : Tm) (k m : List Tm) → count_in a (k ++ m) ≡ count_in a k + count_in a m
count-append a [] m = omega arith
count-append a (b ∷ k) m = by_test (same_tm a b) (count-append a k m)
  where
    by_test : (t : Bool) → count_in a (k ++ m) ≡ count_in a k + count_in a m → cond t (suc (count_in a (k ++ m))) (count_in a (k ++ m)) ≡ cond t (suc (count_in a k)) (count_in a k) + count_in a m
    by_test true ih = omega arith
    by_test false ih = ih

abbrev alike_on : List Tm → List Tm → List Tm → Bool
alike_on l k m = list_all (λ a. nat_eq (count_in a k) (count_in a m)) l

alike_at : (l k m : List Tm) (a : Tm) → alike_on l k m ≡ true → (count_in a k ≡ count_in a m) ⊎ (count_in a l ≡ 0)
alike_at [] k m a e = inr refl
alike_at (b ∷ l) k m a e =
    let h = and_parts (nat_eq (count_in b k) (count_in b m)) (alike_on l k m) e in
    by_test (same_tm a b) refl (eqb-true (count_in b k) (count_in b m) h.0) (alike_at l k m a h.1)
  where
    by_test : (t : Bool) → same_tm a b ≡ t → count_in b k ≡ count_in b m → (count_in a k ≡ count_in a m) ⊎ (count_in a l ≡ 0) → (count_in a k ≡ count_in a m) ⊎ (cond t (suc (count_in a l)) (count_in a l) ≡ 0)
    by_test true f g ih = inl (subst (λ x. count_in x k ≡ count_in x m) (sym (same_term a b f)) g)
    by_test false f g ih = ih

pub alike_counts : (k m : List Tm) → alike k m ≡ true → (a : Tm) → count_in a k ≡ count_in a m
alike_counts k m e a = ⊎_elim (λ h. h) (λ h. let c = count-append a k m in omega arith) (alike_at (k ++ m) k m a e)

counts_on : (l k m : List Tm) → ((a : Tm) → count_in a k ≡ count_in a m) → alike_on l k m ≡ true
counts_on [] k m h = refl
counts_on (a ∷ l) k m h = and_from _ _ (eq-eqb (count_in a k) (count_in a m) (h a)) (counts_on l k m h)

pub counts_alike : (k m : List Tm) → ((a : Tm) → count_in a k ≡ count_in a m) → alike k m ≡ true
counts_alike k m h = counts_on (k ++ m) k m h

alike_turn : (k m : List Tm) → alike k m ≡ true → alike m k ≡ true
alike_turn k m e = counts_alike m k (λ a. sym (alike_counts k m e a))

alike_chain : (k l m : List Tm) → alike k l ≡ true → alike l m ≡ true → alike k m ≡ true
alike_chain k l m e f = counts_alike k m (λ a. alike_counts k l e a ∙ alike_counts l m f a)

pub both_true : (s t : Bool) → (s ≡ true → t ≡ true) → (t ≡ true → s ≡ true) → s ≡ t
both_true true t f g = sym (f refl)
both_true false true f g = g refl
both_true false false f g = refl

pub alike_laws : IsEquivalence alike
alike_laws = record {
  refl = λ k. counts_alike k k (λ a. refl);
  symm = λ k m. both_true _ _ (alike_turn k m) (alike_turn m k);
  congr = λ k l m e. both_true _ _ (λ f. alike_chain l k m (alike_turn k l e) f) (λ f. alike_chain k l m e f);
}

without : Tm → List Tm → List Tm
without a [] = []
without a (b ∷ bs) = cond (same_tm a b) bs (b ∷ without a bs)

counts_without : (a : Tm) (n : ℕ) (m : List Tm) → count_in a m ≡ suc n → (c : Tm) → count_in c m ≡ cond (same_tm c a) (suc (count_in c (without a m))) (count_in c (without a m))
unfolding without
counts_without a n [] e c = cc
counts_without a n (b ∷ m) e c = by_test (same_tm a b) refl e (λ f. counts_without a n m f c)
  where
    swap : (t u : Bool) (x y : ℕ) → x ≡ cond u (suc y) y → cond t (suc x) x ≡ cond u (suc (cond t (suc y) y)) (cond t (suc y) y)
    swap true true x y f = ap suc f
    swap true false x y f = ap suc f
    swap false true x y f = f
    swap false false x y f = f

    by_test : (t : Bool) → same_tm a b ≡ t → cond t (suc (count_in a m)) (count_in a m) ≡ suc n → (count_in a m ≡ suc n → count_in c m ≡ cond (same_tm c a) (suc (count_in c (without a m))) (count_in c (without a m))) → cond (same_tm c b) (suc (count_in c m)) (count_in c m) ≡ cond (same_tm c a) (suc (count_in c (cond t m (b ∷ without a m)))) (count_in c (cond t m (b ∷ without a m)))
    by_test true f e' ih = ap (λ x. cond (same_tm c x) (suc (count_in c m)) (count_in c m)) (sym (same_term a b f))
    by_test false f e' ih = swap (same_tm c b) (same_tm c a) (count_in c m) (count_in c (without a m)) (ih e')

-- what a step makes of all atoms, where it doesn't matter which comes first
module _ {X : Type 0} (step : Tm → X → X) (none : X) where
  pub folded : List Tm → X
  folded [] = none
  folded (a ∷ m) = step a (folded m)

  pub folded-none : folded [] ≡ none
  unfolding folded
  folded-none = refl

  pub folded-more : (a : Tm) (m : List Tm) → folded (a ∷ m) ≡ step a (folded m)
  unfolding folded
  folded-more a m = refl

  module _ (turned : (a b : Tm) (x : X) → step a (step b x) ≡ step b (step a x)) where
    taken_out : (a : Tm) (n : ℕ) (m : List Tm) → count_in a m ≡ suc n → folded m ≡ step a (folded (without a m))
    unfolding folded without
    taken_out a n [] e = cc
    taken_out a n (b ∷ m) e = by_test (same_tm a b) refl e (taken_out a n m)
      where
        by_test : (t : Bool) → same_tm a b ≡ t → cond t (suc (count_in a m)) (count_in a m) ≡ suc n → (count_in a m ≡ suc n → folded m ≡ step a (folded (without a m))) → step b (folded m) ≡ step a (folded (cond t m (b ∷ without a m)))
        by_test true f e' ih = ap (λ x. step x (folded m)) (sym (same_term a b f))
        by_test false f e' ih = ap (step b) (ih e') ∙ turned b a (folded (without a m))

    pub same_counts : (k m : List Tm) → ((a : Tm) → count_in a k ≡ count_in a m) → folded k ≡ folded m
    unfolding folded
    same_counts [] [] h = refl
    same_counts [] (b ∷ m) h =
        let e = h b in let s : count_in b (b ∷ m) ≡ suc (count_in b m) = ap (λ t. cond t (suc (count_in b m)) (count_in b m)) (term_self b) in absurd (omega arith)
    same_counts (a ∷ k) m h =
        let s : count_in a (a ∷ k) ≡ suc (count_in a k) = ap (λ t. cond t (suc (count_in a k)) (count_in a k)) (term_self a) in
        let e : count_in a m ≡ suc (count_in a k) = sym (h a) ∙ s in
        ap (step a) (same_counts k (without a m) (λ c. drop (same_tm c a) (count_in c k) (count_in c (without a m)) (h c ∙ counts_without a (count_in a k) m e c)))
        ∙ sym (taken_out a (count_in a k) m e)
      where
        drop : (t : Bool) (x y : ℕ) → cond t (suc x) x ≡ cond t (suc y) y → x ≡ y
        drop true x y f = omega arith
        drop false x y f = f

-- the product of the atoms' numbers
module _ (num : Tm → ℤ) where
  pub power : List Tm → ℤ
  power [] = pos 1
  power (a ∷ as') = num a *ℤ power as'

  pub power-none : power [] ≡ pos 1
  unfolding power
  power-none = refl

  pub power-more : (a : Tm) (as' : List Tm) → power (a ∷ as') ≡ num a *ℤ power as'
  unfolding power
  power-more a as' = refl

  pub power-append : (k m : List Tm) → power (k ++ m) ≡ power k *ℤ power m
  unfolding power
  power-append [] m = sym (one-product (power m))
  power-append (a ∷ k) m = ap (λ x. num a *ℤ x) (power-append k m) ∙ sym (product-assoc (num a) (power k) (power m))

  turned : (a b : Tm) (x : ℤ) → num a *ℤ (num b *ℤ x) ≡ num b *ℤ (num a *ℤ x)
  turned a b x = sym (product-assoc (num a) (num b) x) ∙ ap (λ y. y *ℤ x) (*ℤ_comm (num a) (num b)) ∙ product-assoc (num b) (num a) x

  power_fold : (m : List Tm) → power m ≡ folded (λ a x. num a *ℤ x) (pos 1) m
  unfolding power folded
  power_fold [] = refl
  power_fold (a ∷ m) = ap (λ x. num a *ℤ x) (power_fold m)

  pub same_power : (k m : List Tm) → alike k m ≡ true → power k ≡ power m
  same_power k m e = power_fold k ∙ same_counts (λ a x. num a *ℤ x) (pos 1) turned k m (alike_counts k m e) ∙ sym (power_fold m)
