-- What the maps of polynomials hold.
use Rattle.std.proofs.Common.{◌≡◌, ℕ, suc, ◌&&◌, ◌||◌, Bool, true, false, cond, not, nat_eq, nat_lt, List, [], ◌∷◌, ◌++◌, length, ℤ, pos, negsuc, ◌+ℤ◌, ◌*ℤ◌, neg_ℤ, Vec, Option, Some, None, bytes_eq, refl, sym, ap, ap₂, ◌∙◌, subst, arith}
use Rattle.std.proofs.Math.IntN.{+ℤ_idl, +ℤ_idr, +ℤ_assoc, +ℤ_comm}
use Rattle.std.proofs.lemmas.Bool.{eqb-true, ltb-true}
use Rattle.std.proofs.lemmas.Bool.Decides.{Decides-int_eq}
use Rattle.std.specs.declared.alloc.Global.{Global}
use Rattle.std.specs.declared.cmp.Ordering.{Ordering}
use Rattle.std.specs.declared.cmp.Ordering.TheVariants.{Less, Equal, Greater}
use Rattle.std.specs.Ordering.{int_eq, nat_cmp, is_eq, ordering_then, match_ordering}
use Rattle.std.specs.Cmp.Lexicographic.{slice_cmp}
use Rattle.std.specs.List.{list_any, filter, AllByRecursion}
use Rattle.std.specs.List.Sorted.{IsStrictlySortedBy}
use Rattle.std.specs.Map.{lookup, keys_of, values_of}
use Rattle.std.specs.BTreeMap.{insert_entry, is_at}
use Rattle.std.proofs.lemmas.Cmp.{nat_list_cmp_total, nat_list_eq_equiv}
use Rattle.terms.proofs.Names.{same_name}
use Rattle.ring_laws.specs.FormalSums.{coefficient, support, negated, times_each}
use Rattle.ring_laws.specs.view.Held.{held, together, SameSum}
use Rattle.ring_laws.proofs.Integers.{one-product, product-neg}
use Rattle.ring_laws.proofs.Sums.{coefficient-append}
use Rattle.ring_laws.proofs.Support.{Apart, as_many, support-has, support-apart}

abbrev Key : Type 0
Key = Vec ℕ Global

abbrev cmp : Key → Key → Ordering
cmp x y = slice_cmp nat_cmp x.items y.items

abbrev Keyed : Type 0
Keyed = List (List ℕ × ℤ)

-- the order tells apart what the test does
nat_tie : (x y : ℕ) (o : Ordering) → is_eq (ordering_then (nat_cmp x y) o) ≡ (nat_eq x y && is_eq o)
nat_tie x y o = by_test (nat_lt x y) refl (nat_eq x y) refl
  where
    by_test : (t : Bool) → nat_lt x y ≡ t → (u : Bool) → nat_eq x y ≡ u → is_eq (ordering_then (cond t Less (cond u Equal Greater)) o) ≡ (u && is_eq o)
    by_test true f true g = let a = ltb-true x y f in let b = eqb-true x y g in absurd (omega arith)
    by_test true f false g = refl
    by_test false f true g = refl
    by_test false f false g = refl

tie : (xs ys : List ℕ) → is_eq (slice_cmp nat_cmp xs ys) ≡ bytes_eq xs ys
tie [] [] = refl
tie [] (y ∷ ys) = refl
tie (x ∷ xs) [] = refl
tie (x ∷ xs) (y ∷ ys) = nat_tie x y (slice_cmp nat_cmp xs ys) ∙ ap (λ b. nat_eq x y && b) (tie xs ys)

at_key : (k q : Key) (o : Ordering) → cmp k q ≡ o → bytes_eq q.items k.items ≡ is_eq o
at_key k q o e = nat_list_eq_equiv.symm q.items k.items ∙ sym (tie k.items q.items) ∙ ap is_eq e

abbrev Above : Key → List Key → Type 0
Above k = AllByRecursion (λ q. cmp k q ≡ Less)

above_more : (k q : Key) (qs : List Key) → cmp k q ≡ Less → Above q qs → Above k qs
above_more k q [] l h = tt
above_more k q (r ∷ qs) l h = (nat_list_cmp_total.trans k.items q.items r.items l h.0, above_more k q qs l h.1)

above_like : (k q : Key) (qs : List Key) → cmp k q ≡ Equal → Above q qs → Above k qs
above_like k q [] l h = tt
above_like k q (r ∷ qs) l h = (nat_list_cmp_total.congr k.items q.items r.items l ∙ h.0, above_like k q qs l h.1)

-- no entry is at a key below all
nothing_below : (k : Key) (es : List (Key × ℤ)) → Above k (keys_of es) → coefficient bytes_eq (held es) k.items ≡ pos 0
nothing_below k [] h = refl
nothing_below k (e ∷ es) h =
    ap (λ t. cond t (e.1 +ℤ coefficient bytes_eq (held es) k.items) (coefficient bytes_eq (held es) k.items)) (at_key k e.0 Less h.0) ∙ nothing_below k es h.1

abbrev or_zero : Option ℤ → ℤ
or_zero None = pos 0
or_zero (Some z) = z

-- a look-up finds the coefficient
pub lookup_coefficient : (es : List (Key × ℤ)) (k : Key) → IsStrictlySortedBy cmp (keys_of es) → coefficient bytes_eq (held es) k.items ≡ or_zero (lookup (is_at (cmp k)) es)
unfolding IsStrictlySortedBy
lookup_coefficient [] k s = refl
lookup_coefficient (e ∷ es) k s = by_order (cmp k e.0) refl (lookup_coefficient es k s.1)
  where
    by_order : (o : Ordering) → cmp k e.0 ≡ o → coefficient bytes_eq (held es) k.items ≡ or_zero (lookup (is_at (cmp k)) es) → coefficient bytes_eq (held (e ∷ es)) k.items ≡ or_zero (cond (is_eq o) (Some e.1) (lookup (is_at (cmp k)) es))
    by_order Less f ih = ap (λ t. cond t (e.1 +ℤ coefficient bytes_eq (held es) k.items) (coefficient bytes_eq (held es) k.items)) (at_key k e.0 Less f) ∙ ih
    by_order Greater f ih = ap (λ t. cond t (e.1 +ℤ coefficient bytes_eq (held es) k.items) (coefficient bytes_eq (held es) k.items)) (at_key k e.0 Greater f) ∙ ih
    by_order Equal f ih =
        ap (λ t. cond t (e.1 +ℤ coefficient bytes_eq (held es) k.items) (coefficient bytes_eq (held es) k.items)) (at_key k e.0 Equal f)
        ∙ ap (λ x. e.1 +ℤ x) (nothing_below k es (above_like k e.0 (keys_of es) f s.0)) ∙ +ℤ_idr e.1

-- the sum with one more entry
abbrev more : List ℕ → ℤ → Keyed → List ℕ → ℤ
more k c es q = cond (bytes_eq k q) (c +ℤ coefficient bytes_eq es q) (coefficient bytes_eq es q)

same_tests : (k e : List ℕ) → bytes_eq e k ≡ true → (q : List ℕ) → bytes_eq e q ≡ bytes_eq k q
same_tests k e f q = ap (λ x. bytes_eq x q) (same_name e k f)

-- inserting the coefficient's sum with c adds c at the key
pub inserted : (es : List (Key × ℤ)) (k : Key) (c v : ℤ) → IsStrictlySortedBy cmp (keys_of es) → v ≡ coefficient bytes_eq (held es) k.items +ℤ c → (q : List ℕ) → coefficient bytes_eq (held (insert_entry cmp es k v)) q ≡ more k.items c (held es) q
unfolding IsStrictlySortedBy
inserted [] k c v s e q = ap (λ x. cond (bytes_eq k.items q) (x +ℤ pos 0) (pos 0)) (e ∙ +ℤ_idl c)
inserted (e ∷ es) k c v s h q = by_order (cmp k e.0) refl (λ w i. inserted es k c w s.1 i q)
  where
    swap : (t u : Bool) → cond t (e.1 +ℤ cond u (c +ℤ coefficient bytes_eq (held es) q) (coefficient bytes_eq (held es) q)) (cond u (c +ℤ coefficient bytes_eq (held es) q) (coefficient bytes_eq (held es) q)) ≡ cond u (c +ℤ cond t (e.1 +ℤ coefficient bytes_eq (held es) q) (coefficient bytes_eq (held es) q)) (cond t (e.1 +ℤ coefficient bytes_eq (held es) q) (coefficient bytes_eq (held es) q))
    swap true true = sym (+ℤ_assoc e.1 c _) ∙ ap (λ x. x +ℤ coefficient bytes_eq (held es) q) (+ℤ_comm e.1 c) ∙ +ℤ_assoc c e.1 _
    swap true false = refl
    swap false true = refl
    swap false false = refl

    at_same : (t : Bool) → (x : ℤ) → x ≡ e.1 +ℤ c → cond t (x +ℤ coefficient bytes_eq (held es) q) (coefficient bytes_eq (held es) q) ≡ cond t (c +ℤ cond t (e.1 +ℤ coefficient bytes_eq (held es) q) (coefficient bytes_eq (held es) q)) (cond t (e.1 +ℤ coefficient bytes_eq (held es) q) (coefficient bytes_eq (held es) q))
    at_same true x i = ap (λ y. y +ℤ coefficient bytes_eq (held es) q) (i ∙ +ℤ_comm e.1 c) ∙ +ℤ_assoc c e.1 _
    at_same false x i = refl

    by_order : (o : Ordering) → cmp k e.0 ≡ o → ((w : ℤ) → w ≡ coefficient bytes_eq (held es) k.items +ℤ c → coefficient bytes_eq (held (insert_entry cmp es k w)) q ≡ more k.items c (held es) q) → coefficient bytes_eq (held (match_ordering o ((k, v) ∷ e ∷ es) ((e.0, v) ∷ es) (e ∷ insert_entry cmp es k v))) q ≡ more k.items c (held (e ∷ es)) q
    by_order Less f ih =
        let z = nothing_below k (e ∷ es) (f, above_more k e.0 (keys_of es) f s.0) in
        ap (λ x. cond (bytes_eq k.items q) (x +ℤ coefficient bytes_eq (held (e ∷ es)) q) (coefficient bytes_eq (held (e ∷ es)) q)) (h ∙ ap (λ y. y +ℤ c) z ∙ +ℤ_idl c)
    by_order Greater f ih =
        let i : v ≡ coefficient bytes_eq (held es) k.items +ℤ c = h ∙ ap (λ t. cond t (e.1 +ℤ coefficient bytes_eq (held es) k.items) (coefficient bytes_eq (held es) k.items) +ℤ c) (at_key k e.0 Greater f) in
        ap (λ x. cond (bytes_eq e.0.items q) (e.1 +ℤ x) x) (ih v i) ∙ swap (bytes_eq e.0.items q) (bytes_eq k.items q)
    by_order Equal f ih =
        let t : bytes_eq e.0.items k.items ≡ true = at_key k e.0 Equal f in
        let z = nothing_below k es (above_like k e.0 (keys_of es) f s.0) in
        let i : v ≡ e.1 +ℤ c = h ∙ ap (λ b. cond b (e.1 +ℤ coefficient bytes_eq (held es) k.items) (coefficient bytes_eq (held es) k.items) +ℤ c) t ∙ ap (λ x. (e.1 +ℤ x) +ℤ c) z ∙ ap (λ x. x +ℤ c) (+ℤ_idr e.1) in
        at_same (bytes_eq e.0.items q) v i
        ∙ ap (λ b. cond b (c +ℤ cond (bytes_eq e.0.items q) (e.1 +ℤ coefficient bytes_eq (held es) q) (coefficient bytes_eq (held es) q)) (cond (bytes_eq e.0.items q) (e.1 +ℤ coefficient bytes_eq (held es) q) (coefficient bytes_eq (held es) q))) (same_tests k.items e.0.items t q)

-- the keys of the entries other than 0
live : List (Key × ℤ) → List (List ℕ)
live [] = []
live (e ∷ es) = cond (int_eq e.1 (pos 0)) (live es) (e.0.items ∷ live es)

abbrev in_live : List ℕ → List (Key × ℤ) → Bool
in_live k es = list_any (bytes_eq k) (live es)

live-has : (es : List (Key × ℤ)) → IsStrictlySortedBy cmp (keys_of es) → (k : List ℕ) → in_live k es ≡ not (int_eq (coefficient bytes_eq (held es) k) (pos 0))
unfolding live IsStrictlySortedBy
live-has [] s k = refl
live-has (e ∷ es) s k = by_key (bytes_eq e.0.items k) refl (int_eq e.1 (pos 0)) refl (live-has es s.1 k)
  where
    turned : (t : Bool) → bytes_eq e.0.items k ≡ t → bytes_eq k e.0.items ≡ t
    turned t f = nat_list_eq_equiv.symm k e.0.items ∙ f

    none : bytes_eq e.0.items k ≡ true → coefficient bytes_eq (held es) k ≡ pos 0
    none f = subst (λ q. coefficient bytes_eq (held es) q ≡ pos 0) (same_name e.0.items k f) (nothing_below e.0 es s.0)

    by_key : (t : Bool) → bytes_eq e.0.items k ≡ t → (u : Bool) → int_eq e.1 (pos 0) ≡ u → in_live k es ≡ not (int_eq (coefficient bytes_eq (held es) k) (pos 0)) → list_any (bytes_eq k) (cond u (live es) (e.0.items ∷ live es)) ≡ not (int_eq (cond t (e.1 +ℤ coefficient bytes_eq (held es) k) (coefficient bytes_eq (held es) k)) (pos 0))
    by_key true f true g ih = ih ∙ ap (λ x. not (int_eq x (pos 0))) (none f) ∙ sym (ap (λ x. not (int_eq x (pos 0))) (ap (λ x. e.1 +ℤ x) (none f) ∙ +ℤ_idr e.1 ∙ (Decides-int_eq e.1 (pos 0)).0 g))
    by_key true f false g ih =
        ap (λ b. b || list_any (bytes_eq k) (live es)) (turned true f)
        ∙ sym (ap (λ x. not (int_eq x (pos 0))) (ap (λ x. e.1 +ℤ x) (none f) ∙ +ℤ_idr e.1) ∙ ap not g)
    by_key false f true g ih = ih
    by_key false f false g ih = ap (λ b. b || list_any (bytes_eq k) (live es)) (turned false f) ∙ ih

above_lacks : (k : Key) (es : List (Key × ℤ)) → Above k (keys_of es) → in_live k.items es ≡ false
unfolding live
above_lacks k [] h = refl
above_lacks k (e ∷ es) h = by_test (int_eq e.1 (pos 0)) (above_lacks k es h.1)
  where
    by_test : (u : Bool) → in_live k.items es ≡ false → list_any (bytes_eq k.items) (cond u (live es) (e.0.items ∷ live es)) ≡ false
    by_test true ih = ih
    by_test false ih = ap (λ b. b || list_any (bytes_eq k.items) (live es)) (nat_list_eq_equiv.symm k.items e.0.items ∙ at_key k e.0 Less h.0) ∙ ih

live-apart : (es : List (Key × ℤ)) → IsStrictlySortedBy cmp (keys_of es) → Apart (List ℕ) bytes_eq nat_list_eq_equiv (live es)
unfolding live IsStrictlySortedBy
live-apart [] s = tt
live-apart (e ∷ es) s = by_test (int_eq e.1 (pos 0)) (live-apart es s.1)
  where
    by_test : (u : Bool) → Apart (List ℕ) bytes_eq nat_list_eq_equiv (live es) → Apart (List ℕ) bytes_eq nat_list_eq_equiv (cond u (live es) (e.0.items ∷ live es))
    by_test true ih = ih
    by_test false ih = (above_lacks e.0 es s.0, ih)

abbrev is_live : ℤ → Bool
is_live z = not (int_eq z (pos 0))

live-length : (es : List (Key × ℤ)) → length (live es) ≡ length (filter is_live (values_of es))
unfolding live
live-length [] = refl
live-length (e ∷ es) = by_test (int_eq e.1 (pos 0)) (live-length es)
  where
    by_test : (u : Bool) → length (live es) ≡ length (filter is_live (values_of es)) → length (cond u (live es) (e.0.items ∷ live es)) ≡ length (cond (not u) (e.1 ∷ filter is_live (values_of es)) (filter is_live (values_of es)))
    by_test true ih = ih
    by_test false ih = ap suc ih

-- the entries other than 0 are as many as the keys with a coefficient other than 0
pub size_of : (es : List (Key × ℤ)) → IsStrictlySortedBy cmp (keys_of es) → length (filter (λ z. not (int_eq z (pos 0))) (values_of es)) ≡ length (support bytes_eq (held es))
size_of es s =
    sym (live-length es)
    ∙ as_many (List ℕ) bytes_eq nat_list_eq_equiv (live es) (support bytes_eq (held es)) (live-apart es s) (support-apart (List ℕ) bytes_eq nat_list_eq_equiv (held es))
    (λ k. live-has es s k ∙ sym (support-has (List ℕ) bytes_eq nat_list_eq_equiv k (held es)))

-- ---- one step of each loop
pub added : (es : List (Key × ℤ)) (k : Key) (c v : ℤ) → IsStrictlySortedBy cmp (keys_of es) → v ≡ coefficient bytes_eq (held es) k.items +ℤ c → SameSum (held (insert_entry cmp es k v)) ((k.items, c) ∷ held es)
added es k c v s e = record { same = inserted es k c v s e }

pub added_nothing : (es : Keyed) (k : List ℕ) → SameSum es ((k, pos 0) ∷ es)
added_nothing es k = record { same = λ q. by_test (bytes_eq k q) (coefficient bytes_eq es q) }
  where
    by_test : (t : Bool) (x : ℤ) → x ≡ cond t (pos 0 +ℤ x) x
    by_test true x = sym (+ℤ_idl x)
    by_test false x = refl

-- the first of the other entries goes over
pub one_over : (es fs rest all : Keyed) (d : List ℕ × ℤ) → SameSum fs (d ∷ es) → SameSum (es ++ d ∷ rest) all → SameSum (fs ++ rest) all
one_over es fs rest all d h g = record {
  same = λ q.
      coefficient-append _ bytes_eq fs rest q ∙ ap (λ x. x +ℤ coefficient bytes_eq rest q) (h.same q)
      ∙ by_test (bytes_eq d.0 q) (coefficient bytes_eq es q) (coefficient bytes_eq rest q)
      ∙ sym (coefficient-append _ bytes_eq es (d ∷ rest) q) ∙ g.same q;
}
  where
    by_test : (t : Bool) (x y : ℤ) → cond t (d.1 +ℤ x) x +ℤ y ≡ x +ℤ cond t (d.1 +ℤ y) y
    by_test true x y = ap (λ z. z +ℤ y) (+ℤ_comm d.1 x) ∙ +ℤ_assoc x d.1 y
    by_test false x y = refl

-- the first of the other parts goes over
pub part_over : (es fs part rest all : Keyed) → SameSum fs (es ++ part) → SameSum (es ++ (part ++ rest)) all → SameSum (fs ++ rest) all
part_over es fs part rest all h g = record {
  same = λ q.
      coefficient-append _ bytes_eq fs rest q ∙ ap (λ x. x +ℤ coefficient bytes_eq rest q) (h.same q ∙ coefficient-append _ bytes_eq es part q)
      ∙ +ℤ_assoc (coefficient bytes_eq es q) (coefficient bytes_eq part q) (coefficient bytes_eq rest q)
      ∙ sym (coefficient-append _ bytes_eq es (part ++ rest) q ∙ ap (λ x. coefficient bytes_eq es q +ℤ x) (coefficient-append _ bytes_eq part rest q))
      ∙ g.same q;
}

pub sum_turned : (es fs gs : Keyed) → SameSum es (fs ++ gs) → SameSum es (gs ++ fs)
sum_turned es fs gs h = record {
  same = λ q.
      h.same q ∙ coefficient-append _ bytes_eq fs gs q ∙ +ℤ_comm (coefficient bytes_eq fs q) (coefficient bytes_eq gs q) ∙ sym (coefficient-append _ bytes_eq gs fs q);
}

pub by_one : (es : Keyed) → times_each together ([], pos 1) es ≡ es
by_one [] = refl
by_one (e ∷ es) = ap₂ (λ x r. (e.0, x) ∷ r) (one-product e.1) (by_one es)

pub by_minus_one : (es : Keyed) → times_each together ([], negsuc 0) es ≡ negated es
by_minus_one [] = refl
by_minus_one (e ∷ es) = ap₂ (λ x r. (e.0, x) ∷ r) (product-neg (pos 1) e.1 ∙ ap neg_ℤ (one-product e.1)) (by_minus_one es)

-- one entry of the other sum, times the monomial, goes over
pub times_over : (old new rest all : Keyed) (k : List ℕ) (z : ℤ) (e : List ℕ × ℤ) (p : ℤ) (key : List ℕ) → key ≡ together k e.0 → p ≡ z *ℤ e.1 → SameSum new ((key, p) ∷ old) → SameSum (old ++ times_each together (k, z) (e ∷ rest)) all → SameSum (new ++ times_each together (k, z) rest) all
times_over old new rest all k z e p key ke pe h g =
    one_over old new (times_each together (k, z) rest) all (together k e.0, z *ℤ e.1) (record { same = λ q. h.same q ∙ ap₂ (λ x y. coefficient bytes_eq ((x, y) ∷ old) q) ke pe }) g

pub ruleset maps = (lookup_coefficient)
