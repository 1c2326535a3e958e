-- Monomials by the numbers of their atoms have the coefficients of the monomials.
use Rattle.std.proofs.Common.{◌≡◌, ◌&&◌, ◌||◌, ◌+◌, ◌<◌, ◌≤◌, not, ℕ, suc, nat_le, rules, tests, arith, Bool, true, false, cond, nat_eq, List, [], ◌∷◌, ◌++◌, map, length, ℤ, pos, ◌+ℤ◌, ◌*ℤ◌, neg_ℤ, bytes_eq, refl, sym, ap, ap₂, ◌∙◌, subst}
use Rattle.std.proofs.Math.IntN.{*ℤ-zero, +ℤ_idl}
use Rattle.std.proofs.lemmas.Bool.{and_from, eqb-true, eq-eqb, leb-true, leb-false}
use Rattle.std.specs.Ordering.{int_eq}
use Rattle.std.specs.List.{list_all, list_any, filter}
use Rattle.std.proofs.lemmas.Cmp.{nat_list_eq_equiv}
use Rattle.terms.specs.Terms.{Tm, same_tm}
use Rattle.terms.proofs.Names.{same_name}
use Rattle.terms.proofs.Same.{same_term, term_self}
use Rattle.ring_laws.specs.Expressions.{Expression, Literal, Atom, Sum, Product, Negation}
use Rattle.ring_laws.specs.FormalSums.{coefficient, coefficients_agree, distinct_keys, support, negated, times_each, products}
use Rattle.ring_laws.specs.Polynomials.{Monomials, count_in, alike, monomials}
use Rattle.ring_laws.specs.view.Held.{number_of, put_in, numbers, together, by_numbers, SameSum, HasAtoms, with_atom, with_atoms}
use Rattle.ring_laws.proofs.Integers.{one-product, product-one, product-sum}
use Rattle.ring_laws.proofs.Sums.{coefficient-append, coefficient-negated, weighted, weighted-more, weighted-none, same_weight, agreement}
use Rattle.ring_laws.proofs.Multisets.{alike_counts, both_true, folded, folded-none, folded-more, same_counts}

abbrev Keyed : Type 0
Keyed = List (List ℕ × ℤ)

-- ---- which atoms are in the list
abbrev In : List Tm → Tm → Type 0
In table a = list_any (same_tm a) table ≡ true

or_left : (s t : Bool) → s ≡ true → (s || t) ≡ true
or_left true t e = refl
or_left false t e = cc

or_right : (s t : Bool) → t ≡ true → (s || t) ≡ true
or_right true t e = refl
or_right false t e = e

in_left : (xs ys : List Tm) (a : Tm) → In xs a → In (xs ++ ys) a
in_left [] ys a h = cc
in_left (x ∷ xs) ys a h = by_test (same_tm a x) h (in_left xs ys a)
  where
    by_test : (t : Bool) → (t || list_any (same_tm a) xs) ≡ true → (In xs a → In (xs ++ ys) a) → (t || list_any (same_tm a) (xs ++ ys)) ≡ true
    by_test true h' ih = refl
    by_test false h' ih = ih h'

in_last : (xs : List Tm) (a : Tm) → In (xs ++ a ∷ []) a
in_last [] a = or_left (same_tm a a) false (term_self a)
in_last (x ∷ xs) a = or_right (same_tm a x) _ (in_last xs a)

with_atom-keeps : (a b : Tm) (found : List Tm) → In found b → In (with_atom a found) b
with_atom-keeps a b found h = by_test (list_any (same_tm a) found)
  where
    by_test : (t : Bool) → In (cond t found (found ++ a ∷ [])) b
    by_test true = h
    by_test false = in_left found (a ∷ []) b h

with_atom-has : (a : Tm) (found : List Tm) → In (with_atom a found) a
with_atom-has a found = by_test (list_any (same_tm a) found) refl
  where
    by_test : (t : Bool) → list_any (same_tm a) found ≡ t → In (cond t found (found ++ a ∷ [])) a
    by_test true e = e
    by_test false e = in_last found a

with_atoms-keeps : (e : Expression) (b : Tm) (found : List Tm) → In found b → In (with_atoms e found) b
with_atoms-keeps (Literal n) b found h = h
with_atoms-keeps (Atom a) b found h = with_atom-keeps a b found h
with_atoms-keeps (Sum p q) b found h = with_atoms-keeps q b (with_atoms p found) (with_atoms-keeps p b found h)
with_atoms-keeps (Product p q) b found h = with_atoms-keeps q b (with_atoms p found) (with_atoms-keeps p b found h)
with_atoms-keeps (Negation p) b found h = with_atoms-keeps p b found h

has_more : (xs ys : List Tm) → ((b : Tm) → In xs b → In ys b) → (e : Expression) → HasAtoms xs e → HasAtoms ys e
has_more xs ys k (Literal n) h = tt
has_more xs ys k (Atom a) h = k a h
has_more xs ys k (Sum p q) h = (has_more xs ys k p h.0, has_more xs ys k q h.1)
has_more xs ys k (Product p q) h = (has_more xs ys k p h.0, has_more xs ys k q h.1)
has_more xs ys k (Negation p) h = has_more xs ys k p h

with_atoms-has : (e : Expression) (found : List Tm) → HasAtoms (with_atoms e found) e
with_atoms-has (Literal n) found = tt
with_atoms-has (Atom a) found = with_atom-has a found
with_atoms-has (Sum p q) found =
    (has_more _ _ (λ b h. with_atoms-keeps q b (with_atoms p found) h) p (with_atoms-has p found), with_atoms-has q (with_atoms p found))
with_atoms-has (Product p q) found =
    (has_more _ _ (λ b h. with_atoms-keeps q b (with_atoms p found) h) p (with_atoms-has p found), with_atoms-has q (with_atoms p found))
with_atoms-has (Negation p) found = with_atoms-has p found

-- the atoms of two expressions, the first's collected first
pub has_first : (p q : Expression) (found : List Tm) → HasAtoms (with_atoms q (with_atoms p found)) p
has_first p q found = has_more _ _ (λ b h. with_atoms-keeps q b (with_atoms p found) h) p (with_atoms-has p found)

pub has_second : (p q : Expression) (found : List Tm) → HasAtoms (with_atoms q (with_atoms p found)) q
has_second p q found = with_atoms-has q (with_atoms p found)

-- ---- monomials over the list
module _ (table : List Tm) where
  abbrev pub AllIn : List Tm → Type 0
  AllIn [] = Unit {0}
  AllIn (a ∷ m) = In table a × AllIn m

  abbrev pub Covered : Monomials → Type 0
  Covered [] = Unit {0}
  Covered (e ∷ es) = AllIn e.0 × Covered es

  all_in-append : (k m : List Tm) → AllIn k → AllIn m → AllIn (k ++ m)
  all_in-append [] m h g = g
  all_in-append (a ∷ k) m h g = (h.0, all_in-append k m h.1 g)

  covered-append : (ds es : Monomials) → Covered ds → Covered es → Covered (ds ++ es)
  covered-append [] es h g = g
  covered-append (d ∷ ds) es h g = (h.0, covered-append ds es h.1 g)

  covered-negated : (es : Monomials) → Covered es → Covered (negated es)
  covered-negated [] h = tt
  covered-negated (e ∷ es) h = (h.0, covered-negated es h.1)

  covered-times : (d : List Tm × ℤ) (es : Monomials) → AllIn d.0 → Covered es → Covered (times_each (λ k m. k ++ m) d es)
  covered-times d [] h g = tt
  covered-times d (e ∷ es) h g = (all_in-append d.0 e.0 h g.0, covered-times d es h g.1)

  covered-products : (ds es : Monomials) → Covered ds → Covered es → Covered (products (λ k m. k ++ m) ds es)
  covered-products [] es h g = tt
  covered-products (d ∷ ds) es h g = covered-append _ _ (covered-times d es h.0 g) (covered-products ds es h.1 g)

  pub covered : (e : Expression) → HasAtoms table e → Covered (monomials e)
  covered (Literal n) h = (tt, tt)
  covered (Atom a) h = ((h, tt), tt)
  covered (Sum p q) h = covered-append (monomials p) (monomials q) (covered p h.0) (covered q h.1)
  covered (Product p q) h = covered-products (monomials p) (monomials q) (covered p h.0) (covered q h.1)
  covered (Negation p) h = covered-negated (monomials p) (covered p h)

-- atoms of the list have the same number exactly where they are the same
number_same : (table : List Tm) (a b : Tm) → In table a → In table b → nat_eq (number_of table a) (number_of table b) ≡ same_tm a b
number_same table a b h g =
    both_true _ _ (λ e. back table h g (eqb-true (number_of table a) (number_of table b) e))
    (λ e. eq-eqb (number_of table a) (number_of table b) (ap (number_of table) (same_term a b e)))
  where
    back : (xs : List Tm) → In xs a → In xs b → number_of xs a ≡ number_of xs b → same_tm a b ≡ true
    back [] h' g' e = cc
    back (x ∷ xs) h' g' e = by_tests (same_tm a x) refl (same_tm b x) refl h' g' e (back xs)
      where
        by_tests : (t : Bool) → same_tm a x ≡ t → (u : Bool) → same_tm b x ≡ u → (t || list_any (same_tm a) xs) ≡ true → (u || list_any (same_tm b) xs) ≡ true → cond (not t) (1 + number_of xs a) 0 ≡ cond (not u) (1 + number_of xs b) 0 → (In xs a → In xs b → number_of xs a ≡ number_of xs b → same_tm a b ≡ true) → same_tm a b ≡ true
        by_tests true f true k h' g' e' ih = ap (λ y. same_tm y b) (same_term a x f ∙ sym (same_term b x k)) ∙ term_self b
        by_tests true f false k h' g' e' ih = absurd (omega arith)
        by_tests false f true k h' g' e' ih = absurd (omega arith)
        by_tests false f false k h' g' e' ih = ih h' g' (omega arith)

-- ---- how often a number is in a list
abbrev occurs : ℕ → List ℕ → ℕ
occurs n [] = 0
occurs n (x ∷ xs) = cond (nat_eq n x) (suc (occurs n xs)) (occurs n xs)

occurs-put_in : (n p : ℕ) (xs : List ℕ) → occurs n (put_in p xs) ≡ cond (nat_eq n p) (suc (occurs n xs)) (occurs n xs)
occurs-put_in n p [] = refl
occurs-put_in n p (x ∷ xs) = by_test (nat_le p x) (occurs-put_in n p xs)
  where
    swap : (t u : Bool) (k : ℕ) → cond t (suc (cond u (suc k) k)) (cond u (suc k) k) ≡ cond u (suc (cond t (suc k) k)) (cond t (suc k) k)
    swap true true k = refl
    swap true false k = refl
    swap false true k = refl
    swap false false k = refl

    by_test : (t : Bool) → occurs n (put_in p xs) ≡ cond (nat_eq n p) (suc (occurs n xs)) (occurs n xs) → occurs n (cond t (p ∷ x ∷ xs) (x ∷ put_in p xs)) ≡ cond (nat_eq n p) (suc (occurs n (x ∷ xs))) (occurs n (x ∷ xs))
    by_test true ih = refl
    by_test false ih = ap (λ k. cond (nat_eq n x) (suc k) k) ih ∙ swap (nat_eq n x) (nat_eq n p) (occurs n xs)

occurs-numbers : (table : List Tm) (a : Tm) (m : List Tm) → In table a → AllIn table m → occurs (number_of table a) (numbers table m) ≡ count_in a m
occurs-numbers table a [] h g = refl
occurs-numbers table a (b ∷ m) h g =
    occurs-put_in (number_of table a) (number_of table b) (numbers table m)
    ∙ ap₂ (λ t k. cond t (suc k) k) (number_same table a b h g.0) (occurs-numbers table a m h g.1)

counts_over : (table k m l : List Tm) → numbers table k ≡ numbers table m → AllIn table k → AllIn table m → AllIn table l → list_all (λ a. nat_eq (count_in a k) (count_in a m)) l ≡ true
counts_over table k m [] e h g f = refl
counts_over table k m (a ∷ l) e h g f =
    let counts = sym (occurs-numbers table a k f.0 h) ∙ ap (occurs (number_of table a)) e ∙ occurs-numbers table a m f.0 g in
    and_from _ _ (eq-eqb (count_in a k) (count_in a m) counts) (counts_over table k m l e h g f.1)

-- ---- a number put in
both_less : (p q : ℕ) (xs : List ℕ) → nat_le p q ≡ true → nat_le q p ≡ true → p ∷ q ∷ xs ≡ q ∷ p ∷ xs
both_less p q xs e f =
    let l = leb-true p q e in let g = leb-true q p f in let s : p ≡ q = omega arith in ap₂ (λ x y. x ∷ y ∷ xs) s (sym s)

over : (p q : ℕ) → q < p → nat_le p q ≡ false
over p q l = search (tests, rules)

-- the order in which two are put in doesn't matter
put_in-turned : (p q : ℕ) (xs : List ℕ) → put_in p (put_in q xs) ≡ put_in q (put_in p xs)
put_in-turned p q [] = by_tests (nat_le p q) refl (nat_le q p) refl
  where
    by_tests : (t : Bool) → nat_le p q ≡ t → (u : Bool) → nat_le q p ≡ u → cond t (p ∷ q ∷ []) (q ∷ p ∷ []) ≡ cond u (q ∷ p ∷ []) (p ∷ q ∷ [])
    by_tests true e true f = both_less p q [] e f
    by_tests true e false f = refl
    by_tests false e true f = refl
    by_tests false e false f = let l = leb-false p q e in let g = leb-false q p f in absurd (omega arith)
put_in-turned p q (x ∷ xs) = by_tests (nat_le p x) refl (nat_le q x) refl (nat_le p q) refl (nat_le q p) refl (put_in-turned p q xs)
  where
    by_tests : (t : Bool) → nat_le p x ≡ t → (u : Bool) → nat_le q x ≡ u → (v : Bool) → nat_le p q ≡ v → (w : Bool) → nat_le q p ≡ w → put_in p (put_in q xs) ≡ put_in q (put_in p xs) → put_in p (cond u (q ∷ x ∷ xs) (x ∷ put_in q xs)) ≡ put_in q (cond t (p ∷ x ∷ xs) (x ∷ put_in p xs))
    by_tests true e true f true g true h ih =
        ap (λ y. cond y (p ∷ q ∷ x ∷ xs) (q ∷ put_in p (x ∷ xs))) g ∙ both_less p q (x ∷ xs) g h
        ∙ sym (ap (λ y. cond y (q ∷ p ∷ x ∷ xs) (p ∷ put_in q (x ∷ xs))) h)
    by_tests true e true f true g false h ih =
        ap (λ y. cond y (p ∷ q ∷ x ∷ xs) (q ∷ put_in p (x ∷ xs))) g
        ∙ ap (λ y. p ∷ cond y (q ∷ x ∷ xs) (x ∷ put_in q xs)) (sym f)
        ∙ sym (ap (λ y. cond y (q ∷ p ∷ x ∷ xs) (p ∷ put_in q (x ∷ xs))) h)
    by_tests true e true f false g true h ih =
        ap (λ y. cond y (p ∷ q ∷ x ∷ xs) (q ∷ put_in p (x ∷ xs))) g
        ∙ ap (λ y. q ∷ cond y (p ∷ x ∷ xs) (x ∷ put_in p xs)) e
        ∙ sym (ap (λ y. cond y (q ∷ p ∷ x ∷ xs) (p ∷ put_in q (x ∷ xs))) h)
    by_tests true e true f false g false h ih = let l = leb-false p q g in let k = leb-false q p h in absurd (omega arith)
    by_tests true e false f v g w h ih =
        let l = leb-true p x e in let k = leb-false q x f in
        ap (λ y. cond y (p ∷ x ∷ put_in q xs) (x ∷ put_in p (put_in q xs))) e
        ∙ ap (λ y. p ∷ cond y (q ∷ x ∷ xs) (x ∷ put_in q xs)) (sym f)
        ∙ sym (ap (λ y. cond y (q ∷ p ∷ x ∷ xs) (p ∷ put_in q (x ∷ xs))) (over q p (omega arith)))
    by_tests false e true f v g w h ih =
        let l = leb-false p x e in let k = leb-true q x f in
        ap (λ y. cond y (p ∷ q ∷ x ∷ xs) (q ∷ put_in p (x ∷ xs))) (over p q (omega arith))
        ∙ ap (λ y. q ∷ cond y (p ∷ x ∷ xs) (x ∷ put_in p xs)) e
        ∙ sym (ap (λ y. cond y (q ∷ x ∷ put_in p xs) (x ∷ put_in q (put_in p xs))) f)
    by_tests false e false f v g w h ih =
        ap (λ y. cond y (p ∷ x ∷ put_in q xs) (x ∷ put_in p (put_in q xs))) e
        ∙ ap (λ r. x ∷ r) ih
        ∙ sym (ap (λ y. cond y (q ∷ x ∷ put_in p xs) (x ∷ put_in q (put_in p xs))) f)

under : (p q : ℕ) → p ≤ q → nat_le p q ≡ true
under p q l = search (tests, rules)

-- a number put into the one list is put into the two as one
put_in-together : (p : ℕ) (xs ys : List ℕ) → put_in p (together xs ys) ≡ together (put_in p xs) ys
put_in-together p [] [] = refl
put_in-together p [] (y ∷ ys) = by_test (nat_le p y) (put_in-together p [] ys)
  where
    by_test : (t : Bool) → put_in p ys ≡ together (p ∷ []) ys → cond t (p ∷ y ∷ ys) (y ∷ put_in p ys) ≡ cond t (p ∷ y ∷ ys) (y ∷ together (p ∷ []) ys)
    by_test true ih = refl
    by_test false ih = ap (λ r. y ∷ r) ih
put_in-together p (x ∷ xs) [] = by_test (nat_le p x)
  where
    by_test : (t : Bool) → cond t (p ∷ x ∷ xs) (x ∷ put_in p xs) ≡ together (cond t (p ∷ x ∷ xs) (x ∷ put_in p xs)) []
    by_test true = refl
    by_test false = refl
put_in-together p (x ∷ xs) (y ∷ ys) = by_tests (nat_le p x) refl (nat_le x y) refl (put_in-together p xs (y ∷ ys)) (put_in-together p (x ∷ xs) ys)
  where
    by_tests : (t : Bool) → nat_le p x ≡ t → (u : Bool) → nat_le x y ≡ u → put_in p (together xs (y ∷ ys)) ≡ together (put_in p xs) (y ∷ ys) → put_in p (together (x ∷ xs) ys) ≡ together (cond (nat_le p x) (p ∷ x ∷ xs) (x ∷ put_in p xs)) ys → put_in p (cond u (x ∷ together xs (y ∷ ys)) (y ∷ together (x ∷ xs) ys)) ≡ together (cond t (p ∷ x ∷ xs) (x ∷ put_in p xs)) (y ∷ ys)
    by_tests true e true f ih jh =
        let l = leb-true p x e in let k = leb-true x y f in
        ap (λ v. cond v (p ∷ x ∷ together xs (y ∷ ys)) (x ∷ put_in p (together xs (y ∷ ys)))) e
        ∙ ap (λ v. p ∷ cond v (x ∷ together xs (y ∷ ys)) (y ∷ together (x ∷ xs) ys)) (sym f)
        ∙ sym (ap (λ v. cond v (p ∷ together (x ∷ xs) (y ∷ ys)) (y ∷ together (p ∷ x ∷ xs) ys)) (under p y (omega arith)))
    by_tests true e false f ih jh = by_last (nat_le p y) refl
      where
        by_last : (v : Bool) → nat_le p y ≡ v → cond v (p ∷ y ∷ together (x ∷ xs) ys) (y ∷ put_in p (together (x ∷ xs) ys)) ≡ cond v (p ∷ together (x ∷ xs) (y ∷ ys)) (y ∷ together (p ∷ x ∷ xs) ys)
        by_last true g = ap (λ w. p ∷ cond w (x ∷ together xs (y ∷ ys)) (y ∷ together (x ∷ xs) ys)) (sym f)
        by_last false g = ap (λ r. y ∷ r) (jh ∙ ap (λ w. together (cond w (p ∷ x ∷ xs) (x ∷ put_in p xs)) ys) e)
    by_tests false e true f ih jh =
        ap (λ v. cond v (p ∷ x ∷ together xs (y ∷ ys)) (x ∷ put_in p (together xs (y ∷ ys)))) e
        ∙ ap (λ r. x ∷ r) ih
        ∙ sym (ap (λ v. cond v (x ∷ together (put_in p xs) (y ∷ ys)) (y ∷ together (x ∷ put_in p xs) ys)) f)
    by_tests false e false f ih jh =
        let l = leb-false p x e in let k = leb-false x y f in
        ap (λ v. cond v (p ∷ y ∷ together (x ∷ xs) ys) (y ∷ put_in p (together (x ∷ xs) ys))) (over p y (omega arith))
        ∙ ap (λ r. y ∷ r) (jh ∙ ap (λ w. together (cond w (p ∷ x ∷ xs) (x ∷ put_in p xs)) ys) e)
        ∙ sym (ap (λ v. cond v (x ∷ together (put_in p xs) (y ∷ ys)) (y ∷ together (x ∷ put_in p xs) ys)) f)

numbers_fold : (table : List Tm) (m : List Tm) → numbers table m ≡ folded (λ a ns. put_in (number_of table a) ns) [] m
numbers_fold table [] = sym (folded-none (λ a ns. put_in (number_of table a) ns) [])
numbers_fold table (a ∷ m) =
    ap (put_in (number_of table a)) (numbers_fold table m) ∙ sym (folded-more (λ a' ns. put_in (number_of table a') ns) [] a m)

keys_same : (table k m : List Tm) → ((a : Tm) → count_in a k ≡ count_in a m) → bytes_eq (numbers table k) (numbers table m) ≡ true
keys_same table k m h =
    let same = numbers_fold table k ∙ same_counts (λ a ns. put_in (number_of table a) ns) [] (λ a b ns. put_in-turned (number_of table a) (number_of table b) ns) k m h ∙ sym (numbers_fold table m) in
    ap (bytes_eq (numbers table k)) (sym same) ∙ nat_list_eq_equiv.refl (numbers table k)

key_alike : (table k m : List Tm) → AllIn table k → AllIn table m → bytes_eq (numbers table k) (numbers table m) ≡ alike k m
key_alike table k m h g =
    both_true _ _
    (λ e. counts_over table k m (k ++ m) (same_name _ _ e) h g (all_in-append table k m h g))
    (λ e. keys_same table k m (alike_counts k m e))

coefficient_key : (table : List Tm) (es : Monomials) (m : List Tm) → Covered table es → AllIn table m → coefficient bytes_eq (by_numbers table es) (numbers table m) ≡ coefficient alike es m
coefficient_key table [] m h g = refl
coefficient_key table (e ∷ es) m h g = ap₂ (λ t x. cond t (e.1 +ℤ x) x) (key_alike table e.0 m h.0 g) (coefficient_key table es m h.1 g)

any_key : (table k : List Tm) (es : Monomials) → AllIn table k → Covered table es → list_any (λ f. bytes_eq (numbers table k) f.0) (by_numbers table es) ≡ list_any (λ f. alike k f.0) es
any_key table k [] h g = refl
any_key table k (e ∷ es) h g = ap₂ (λ s t. s || t) (key_alike table k e.0 h g.0) (any_key table k es h g.1)

distinct_key : (table : List Tm) (es : Monomials) → Covered table es → distinct_keys bytes_eq (by_numbers table es) ≡ map (numbers table) (distinct_keys alike es)
distinct_key table [] h = refl
distinct_key table (e ∷ es) h =
    ap₂ (λ t ks. cond t ks (numbers table e.0 ∷ ks)) (any_key table e.0 es h.0 h.1) (distinct_key table es h.1) ∙ by_test (list_any (λ f. alike e.0 f.0) es)
  where
    by_test : (t : Bool) → cond t (map (numbers table) (distinct_keys alike es)) (numbers table e.0 ∷ map (numbers table) (distinct_keys alike es)) ≡ map (numbers table) (cond t (distinct_keys alike es) (e.0 ∷ distinct_keys alike es))
    by_test true = refl
    by_test false = refl

abbrev AllKeysIn : List Tm → List (List Tm) → Type 0
AllKeysIn table [] = Unit {0}
AllKeysIn table (k ∷ ks) = AllIn table k × AllKeysIn table ks

distinct_in : (table : List Tm) (es : Monomials) → Covered table es → AllKeysIn table (distinct_keys alike es)
distinct_in table [] h = tt
distinct_in table (e ∷ es) h = by_test (list_any (λ f. alike e.0 f.0) es) (distinct_in table es h.1)
  where
    by_test : (t : Bool) → AllKeysIn table (distinct_keys alike es) → AllKeysIn table (cond t (distinct_keys alike es) (e.0 ∷ distinct_keys alike es))
    by_test true ih = ih
    by_test false ih = (h.0, ih)

filter_key : (table : List Tm) (es : Monomials) (ks : List (List Tm)) → Covered table es → AllKeysIn table ks → length (filter (λ k. not (int_eq (coefficient bytes_eq (by_numbers table es) k) (pos 0))) (map (numbers table) ks)) ≡ length (filter (λ k. not (int_eq (coefficient alike es k) (pos 0))) ks)
filter_key table es [] h g = refl
filter_key table es (k ∷ ks) h g =
    by_test _ _ (ap (λ x. not (int_eq x (pos 0))) (coefficient_key table es k h g.0)) _ _ (filter_key table es ks h g.1)
  where
    by_test : (s t : Bool) → s ≡ t → (xs : List (List ℕ)) (ys : List (List Tm)) → length xs ≡ length ys → length (cond s (numbers table k ∷ xs) xs) ≡ length (cond t (k ∷ ys) ys)
    by_test true true e xs ys l = ap suc l
    by_test false false e xs ys l = l
    by_test true false e xs ys l = cc
    by_test false true e xs ys l = cc

pub size_key : (table : List Tm) (es : Monomials) → Covered table es → length (support bytes_eq (by_numbers table es)) ≡ length (support alike es)
size_key table es h =
    ap (λ ks. length (filter (λ k. not (int_eq (coefficient bytes_eq (by_numbers table es) k) (pos 0))) ks)) (distinct_key table es h)
    ∙ filter_key table es (distinct_keys alike es) h (distinct_in table es h)

by_numbers-append : (table : List Tm) (ds es : Monomials) → by_numbers table (ds ++ es) ≡ by_numbers table ds ++ by_numbers table es
by_numbers-append table [] es = refl
by_numbers-append table (d ∷ ds) es = ap (λ r. (numbers table d.0, d.1) ∷ r) (by_numbers-append table ds es)

by_numbers-negated : (table : List Tm) (es : Monomials) → by_numbers table (negated es) ≡ negated (by_numbers table es)
by_numbers-negated table [] = refl
by_numbers-negated table (e ∷ es) = ap (λ r. (numbers table e.0, neg_ℤ e.1) ∷ r) (by_numbers-negated table es)

numbers-append : (table k m : List Tm) → numbers table (k ++ m) ≡ together (numbers table k) (numbers table m)
numbers-append table [] m = refl
numbers-append table (a ∷ k) m =
    ap (put_in (number_of table a)) (numbers-append table k m) ∙ put_in-together (number_of table a) (numbers table k) (numbers table m)

by_numbers-times : (table : List Tm) (d : List Tm × ℤ) (es : Monomials) → by_numbers table (times_each (λ k m. k ++ m) d es) ≡ times_each together (numbers table d.0, d.1) (by_numbers table es)
by_numbers-times table d [] = refl
by_numbers-times table d (e ∷ es) = ap₂ (λ k r. (k, d.1 *ℤ e.1) ∷ r) (numbers-append table d.0 e.0) (by_numbers-times table d es)

by_numbers-products : (table : List Tm) (ds es : Monomials) → by_numbers table (products (λ k m. k ++ m) ds es) ≡ products together (by_numbers table ds) (by_numbers table es)
by_numbers-products table [] es = refl
by_numbers-products table (d ∷ ds) es =
    by_numbers-append table (times_each (λ k m. k ++ m) d es) (products (λ k m. k ++ m) ds es)
    ∙ ap₂ (λ r s. r ++ s) (by_numbers-times table d es) (by_numbers-products table ds es)

-- the tests of two sums at their own keys
agree_over : (table : List Tm) (ds es rest : Monomials) → Covered table ds → Covered table es → Covered table rest → list_all (λ e. int_eq (coefficient bytes_eq (by_numbers table ds) e.0) (coefficient bytes_eq (by_numbers table es) e.0)) (by_numbers table rest) ≡ list_all (λ e. int_eq (coefficient alike ds e.0) (coefficient alike es e.0)) rest
agree_over table ds es [] h g k = refl
agree_over table ds es (e ∷ rest) h g k =
    ap₂ (λ s t. s && t) (ap₂ int_eq (coefficient_key table ds e.0 h k.0) (coefficient_key table es e.0 g k.0)) (agree_over table ds es rest h g k.1)

agree_key : (table : List Tm) (ds es : Monomials) → Covered table ds → Covered table es → coefficients_agree bytes_eq (by_numbers table ds) (by_numbers table es) ≡ coefficients_agree alike ds es
agree_key table ds es h g =
    ap (λ r. list_all (λ e. int_eq (coefficient bytes_eq (by_numbers table ds) e.0) (coefficient bytes_eq (by_numbers table es) e.0)) r) (sym (by_numbers-append table ds es))
    ∙ agree_over table ds es (ds ++ es) h g (covered-append table ds es h g)

agree_same : (ds es ds' es' : Keyed) → SameSum ds ds' → SameSum es es' → coefficients_agree bytes_eq ds es ≡ coefficients_agree bytes_eq ds' es'
agree_same ds es ds' es' h g =
    let a = agreement (List ℕ) bytes_eq nat_list_eq_equiv ds es in
    let b = agreement (List ℕ) bytes_eq nat_list_eq_equiv ds' es' in
    both_true _ _
    (λ e. b.1 (λ k. sym (h.same k) ∙ a.0 e k ∙ g.same k))
    (λ e. a.1 (λ k. h.same k ∙ b.0 e k ∙ sym (g.same k)))

-- two sums that are those of two expressions are compared as these are
pub compared : (table : List Tm) (p q : Expression) (ds es : Keyed) → HasAtoms table p → HasAtoms table q → SameSum ds (by_numbers table (monomials p)) → SameSum es (by_numbers table (monomials q)) → coefficients_agree bytes_eq ds es ≡ coefficients_agree alike (monomials p) (monomials q)
compared table p q ds es hp hq h g = agree_same ds es _ _ h g ∙ agree_key table (monomials p) (monomials q) (covered table p hp) (covered table q hq)

-- ---- sums with the same coefficients
along : (ds es fs : Keyed) → es ≡ fs → SameSum ds es → SameSum ds fs
along ds es fs e h = subst (SameSum ds) e h

pub sum_expanded : (table : List Tm) (p q : Expression) (ds es : Keyed) → SameSum ds (by_numbers table (monomials p)) → SameSum es (by_numbers table (monomials q)) → SameSum (ds ++ es) (by_numbers table (monomials (Sum p q)))
sum_expanded table p q ds es h g = along _ _ _ (sym (by_numbers-append table (monomials p) (monomials q))) (record {
  same = λ k.
      coefficient-append _ bytes_eq ds es k ∙ ap₂ (λ x y. x +ℤ y) (h.same k) (g.same k) ∙ sym (coefficient-append _ bytes_eq _ _ k);
})

pub negation_expanded : (table : List Tm) (p : Expression) (ds : Keyed) → SameSum ds (by_numbers table (monomials p)) → SameSum (negated ds) (by_numbers table (monomials (Negation p)))
negation_expanded table p ds h = along _ _ _ (sym (by_numbers-negated table (monomials p))) (record {
  same = λ k.
      coefficient-negated _ bytes_eq ds k ∙ ap neg_ℤ (h.same k) ∙ sym (coefficient-negated _ bytes_eq _ k);
})

-- what a monomial times a sum has at q
abbrev shifted : Keyed → List ℕ → List ℕ → ℤ
shifted es q k = coefficient bytes_eq (times_each together (k, pos 1) es) q

times_factor : (d : List ℕ × ℤ) (es : Keyed) (q : List ℕ) → coefficient bytes_eq (times_each together d es) q ≡ d.1 *ℤ shifted es q d.0
times_factor d [] q = sym (*ℤ-zero d.1)
times_factor d (e ∷ es) q = by_test (bytes_eq (together d.0 e.0) q) (times_factor d es q)
  where
    by_test : (t : Bool) → coefficient bytes_eq (times_each together d es) q ≡ d.1 *ℤ shifted es q d.0 → cond t ((d.1 *ℤ e.1) +ℤ coefficient bytes_eq (times_each together d es) q) (coefficient bytes_eq (times_each together d es) q) ≡ d.1 *ℤ cond t ((pos 1 *ℤ e.1) +ℤ shifted es q d.0) (shifted es q d.0)
    by_test true ih = ap₂ (λ x y. (d.1 *ℤ x) +ℤ y) (sym (one-product e.1)) ih ∙ sym (product-sum d.1 (pos 1 *ℤ e.1) (shifted es q d.0))
    by_test false ih = ih

products_weigh : (ds es : Keyed) (q : List ℕ) → coefficient bytes_eq (products together ds es) q ≡ weighted (List ℕ) bytes_eq (shifted es q) ds
products_weigh [] es q = sym (weighted-none (List ℕ) bytes_eq (shifted es q))
products_weigh (d ∷ ds) es q =
    coefficient-append _ bytes_eq (times_each together d es) (products together ds es) q
    ∙ ap₂ (λ x y. x +ℤ y) (times_factor d es q) (products_weigh ds es q)
    ∙ sym (weighted-more (List ℕ) bytes_eq (shifted es q) d ds)

abbrev hits : List ℕ → List ℕ → List ℕ → ℤ
hits k q y = cond (bytes_eq (together k y) q) (pos 1) (pos 0)

shifted_weigh : (es : Keyed) (q k : List ℕ) → shifted es q k ≡ weighted (List ℕ) bytes_eq (hits k q) es
shifted_weigh [] q k = sym (weighted-none (List ℕ) bytes_eq (hits k q))
shifted_weigh (e ∷ es) q k = by_test (bytes_eq (together k e.0) q) (shifted_weigh es q k) ∙ sym (weighted-more (List ℕ) bytes_eq (hits k q) e es)
  where
    by_test : (t : Bool) → shifted es q k ≡ weighted (List ℕ) bytes_eq (hits k q) es → cond t ((pos 1 *ℤ e.1) +ℤ shifted es q k) (shifted es q k) ≡ (e.1 *ℤ cond t (pos 1) (pos 0)) +ℤ weighted (List ℕ) bytes_eq (hits k q) es
    by_test true ih = ap₂ (λ x y. x +ℤ y) (one-product e.1 ∙ sym (product-one e.1)) ih
    by_test false ih = ih ∙ sym (ap (λ x. x +ℤ weighted (List ℕ) bytes_eq (hits k q) es) (*ℤ-zero e.1) ∙ +ℤ_idl _)

products_same : (ds es ds' es' : Keyed) → SameSum ds ds' → SameSum es es' → SameSum (products together ds es) (products together ds' es')
products_same ds es ds' es' h g = record {
  same = λ q.
      products_weigh ds es q
      ∙ same_weight (List ℕ) bytes_eq nat_list_eq_equiv (shifted es q) (λ k m e. ap (shifted es q) (same_name k m e)) ds ds' h.same
      ∙ sym (products_weigh ds' es q)
      ∙ second ds' q;
}
  where
    shift : (q k : List ℕ) → shifted es q k ≡ shifted es' q k
    shift q k =
        shifted_weigh es q k
        ∙ same_weight (List ℕ) bytes_eq nat_list_eq_equiv (hits k q) (λ x y e. ap (hits k q) (same_name x y e)) es es' g.same
        ∙ sym (shifted_weigh es' q k)

    second : (cs : Keyed) (q : List ℕ) → coefficient bytes_eq (products together cs es) q ≡ coefficient bytes_eq (products together cs es') q
    second [] q = refl
    second (c ∷ cs) q =
        coefficient-append _ bytes_eq (times_each together c es) (products together cs es) q
        ∙ ap₂ (λ x y. x +ℤ y) (times_factor c es q ∙ ap (λ x. c.1 *ℤ x) (shift q c.0) ∙ sym (times_factor c es' q)) (second cs q)
        ∙ sym (coefficient-append _ bytes_eq (times_each together c es') (products together cs es') q)

pub product_expanded : (table : List Tm) (p q : Expression) (ds es : Keyed) → SameSum ds (by_numbers table (monomials p)) → SameSum es (by_numbers table (monomials q)) → SameSum (products together ds es) (by_numbers table (monomials (Product p q)))
product_expanded table p q ds es h g = along _ _ _ (sym (by_numbers-products table (monomials p) (monomials q))) (products_same ds es _ _ h g)
