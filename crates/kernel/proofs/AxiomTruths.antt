-- Each axiom is true by what its functions do.
use Rattle.std.proofs.Common.{◌≡◌, ◌≢◌, ℕ, zero, suc, ◌≤◌, ◌*◌, Bool, true, false, cond, ◌&&◌, ℤ, pos, negsuc, ◌+ℤ◌, ◌*ℤ◌, neg_ℤ, int_lt, ◌==◌, nat_le, if◌then◌else◌, codes, Option, Some, None, is_some, refl, sym, ap, ap₂, ◌∙◌, subst, arith}
use Rattle.std.proofs.Math.IntN.{zero-*ℤ, +ℤ_idl}
use Rattle.std.proofs.lemmas.Int.{ints}
use Rattle.std.proofs.lemmas.Bool.{eqb-true, leb-true, le-leb, lt-leb, lt-ltb, le-ltb}
use Rattle.lisp_data.specs.Values.{Name, Val, Int, Sym, Pair, nil, same_val}
use Rattle.terms.specs.Primitives.{primitive, primitives, size, truth, number, choose, is_nil, is_int, is_sym, is_pair, car, cdr}
use Rattle.terms.specs.Terms.{Tm}
use Rattle.terms.proofs.Meaning.{value_self, nil_is, not_nil}
use Rattle.terms.proofs.Basics.{t_not_nil}
use Rattle.terms.proofs.Models.{val}
use Rattle.terms.proofs.Standard.{standard, is_standard, negation, implication, natural, basics_table}
use Rattle.kernel.specs.Axioms.{axiom_at, on_truth, on_pairs, on_integers, on_order, on_counts}

-- its calls are of the primitives, NOT, IMPLIES and NATP, and it is true for all values
pub record IsTruth (t : Tm) : Type 0 where
  pub calls : is_standard basics_table t ≡ true
  pub true' : (env : Name → Val) → val (standard basics_table) t env ≢ nil

abbrev T : Val
T = Sym (codes "T")

implication_true : (a b : Val) → (a ≢ nil → b ≢ nil) → implication a b ≢ nil
implication_true a b h = by_test (is_nil a) refl (is_nil b) refl
  where
    by_test : (c : Bool) → is_nil a ≡ c → (d : Bool) → is_nil b ≡ d → cond (is_nil a) T (cond (is_nil b) nil T) ≢ nil
    by_test true e d f g = t_not_nil (ap (λ c. cond c T (cond (is_nil b) nil T)) (sym e) ∙ g)
    by_test false e true f g = h (not_nil a e) (nil_is b f)
    by_test false e false f g = t_not_nil (ap₂ (λ c d. cond c T (cond d nil T)) (sym e) (sym f) ∙ g)

equal_true : (a b : Val) → a ≡ b → truth (same_val a b) ≢ nil
equal_true a b e h = t_not_nil (ap truth (sym (value_self a)) ∙ ap (λ z. truth (same_val a z)) e ∙ h)

true_is : (b : Bool) → truth b ≢ nil → b ≡ true
true_is true h = refl
true_is false h = absurd (h refl)

is_true : (b : Bool) → b ≡ true → truth b ≢ nil
is_true b e h = t_not_nil (ap truth (sym e) ∙ h)

not_true : (b : Bool) → b ≡ false → negation (truth b) ≢ nil
not_true true e = absurd (cc)
not_true false e = t_not_nil

true_not : (b : Bool) → negation (truth b) ≢ nil → b ≡ false
true_not true h = absurd (h refl)
true_not false h = refl

negated_nil : (a : Val) → negation a ≢ nil → a ≡ nil
negated_nil a h = by_test (is_nil a) refl
  where
    by_test : (b : Bool) → is_nil a ≡ b → a ≡ nil
    by_test true e = nil_is a e
    by_test false e = absurd (h (ap (λ c. cond c T nil) e))

gives_t : (b : Bool) → implication (truth b) (truth (same_val (truth b) T)) ≢ nil
gives_t b = implication_true _ _ (λ h. equal_true (truth b) T (ap truth (true_is b h)))

pair_again : (v : Val) → truth (is_pair v) ≢ nil → Pair (car v) (cdr v) ≡ v
pair_again (Int a) h = absurd (h refl)
pair_again (Sym s) h = absurd (h refl)
pair_again (Pair a b) h = refl

no_car : (v : Val) → is_pair v ≡ false → car v ≡ nil
no_car (Int a) h = refl
no_car (Sym s) h = refl
no_car (Pair a b) h = cc

no_cdr : (v : Val) → is_pair v ≡ false → cdr v ≡ nil
no_cdr (Int a) h = refl
no_cdr (Sym s) h = refl
no_cdr (Pair a b) h = cc

pair_no_int : (v : Val) → truth (is_pair v) ≢ nil → is_int v ≡ false
pair_no_int (Int a) h = absurd (h refl)
pair_no_int (Sym s) h = refl
pair_no_int (Pair a b) h = refl

pair_no_sym : (v : Val) → truth (is_pair v) ≢ nil → is_sym v ≡ false
pair_no_sym (Int a) h = refl
pair_no_sym (Sym s) h = absurd (h refl)
pair_no_sym (Pair a b) h = refl

int_no_sym : (v : Val) → truth (is_int v) ≢ nil → is_sym v ≡ false
int_no_sym (Int a) h = refl
int_no_sym (Sym s) h = absurd (h refl)
int_no_sym (Pair a b) h = refl

no_number : (v : Val) → is_int v ≡ false → number v ≡ pos 0
no_number (Int a) h = cc
no_number (Sym s) h = refl
no_number (Pair a b) h = refl

a_number : (v : Val) → truth (is_int v) ≢ nil → Int (number v) ≡ v
a_number (Int a) h = refl
a_number (Sym s) h = absurd (h refl)
a_number (Pair a b) h = absurd (h refl)

irreflexive : (a : ℤ) → int_lt a a ≡ false
irreflexive a = grind (arith, ints)

transitive : (a b c : ℤ) → int_lt a b ≡ true → int_lt b c ≡ true → int_lt a c ≡ true
transitive a b c h g = grind (arith, ints)

antisymmetric : (a b : ℤ) → int_lt a b ≡ false → int_lt b a ≡ false → a ≡ b
antisymmetric a b h g = grind (arith, ints)

shifted : (a b c : ℤ) → int_lt (a +ℤ c) (b +ℤ c) ≡ int_lt a b
shifted a b c = grind (arith, ints)

next_above : (a b : ℤ) → int_lt a b ≡ true → int_lt b (pos 1 +ℤ a) ≡ false
next_above a b h = grind (arith, ints)

product_above : (a b : ℤ) → int_lt (pos 0) a ≡ true → int_lt (pos 0) b ≡ true → int_lt (pos 0) (a *ℤ b) ≡ true
product_above (pos zero) b h g = cc
product_above (pos (suc m)) (pos zero) h g = cc
product_above (pos (suc m)) (pos (suc n)) h g = lt-ltb 0 (suc m * suc n) (omega arith)
product_above (pos (suc m)) (negsuc n) h g = cc
product_above (negsuc m) b h g = cc

size_of_pair : (v : Val) → truth (is_pair v) ≢ nil → Int (pos (size v)) ≡ Int (pos 1 +ℤ (pos (size (car v)) +ℤ pos (size (cdr v))))
size_of_pair (Int a) h = absurd (h refl)
size_of_pair (Sym s) h = absurd (h refl)
size_of_pair (Pair a b) h = ap (λ n. Int (pos n)) (omega arith)

size_of_int : (v : Val) → truth (is_int v) ≢ nil → Int (pos (size v)) ≡ choose (truth (int_lt (number v) (pos 0))) (Int (neg_ℤ (number v))) v
size_of_int (Int (pos n)) h = ap (λ b. cond (is_nil (truth b)) (Int (pos n)) (Int (neg_ℤ (pos n)))) (sym (le-ltb n 0 (omega arith)))
size_of_int (Int (negsuc n)) h = refl
size_of_int (Sym s) h = absurd (h refl)
size_of_int (Pair a b) h = absurd (h refl)

size_of_sym : (v : Val) → truth (is_sym v) ≢ nil → Int (pos (size v)) ≡ Int (pos 0)
size_of_sym (Int a) h = absurd (h refl)
size_of_sym (Sym s) h = refl
size_of_sym (Pair a b) h = absurd (h refl)

natural_size : (n : ℕ) → natural (Int (pos n)) ≢ nil
natural_size n = not_true (int_lt (pos n) (pos 0)) (le-ltb n 0 (omega arith))

-- the values of the variables
abbrev X : (Name → Val) → Val
X env = env (codes "X")

abbrev Y : (Name → Val) → Val
Y env = env (codes "Y")

abbrev Z : (Name → Val) → Val
Z env = env (codes "Z")

either : (b : Bool) {t u : Tm} → IsTruth t → IsTruth u → IsTruth (if b then t else u)
either true p q = p
either false p q = q

truths : (k : ℕ) → IsTruth (on_truth k)
unfolding primitive primitives on_truth
truths k =
    either (k == 1) (record { calls = refl; true' = λ env. t_not_nil })
    (either (k == 2) (record { calls = refl; true' = λ env. implication_true _ _ (λ h. equal_true _ _ (negated_nil (X env) h)) })
    (either (k == 3) (record { calls = refl; true' = λ env. gives_t (same_val (X env) (Y env)) })
    (either (k == 4) (record { calls = refl; true' = λ env. gives_t (is_pair (X env)) })
    (either (k == 5) (record { calls = refl; true' = λ env. gives_t (is_int (X env)) })
    (either (k == 6) (record { calls = refl; true' = λ env. gives_t (is_sym (X env)) })
    (record { calls = refl; true' = λ env. gives_t (int_lt (number (X env)) (number (Y env))) }))))))

pair_truths : (k : ℕ) → IsTruth (on_pairs k)
unfolding primitive primitives on_pairs
pair_truths k =
    either (k == 8) (record { calls = refl; true' = λ env. equal_true (X env) (X env) refl })
    (either (k == 9) (record { calls = refl; true' = λ env. equal_true (Y env) (Y env) refl })
    (either (k == 10) (record { calls = refl; true' = λ env. equal_true T T refl })
    (either (k == 11) (record { calls = refl; true' = λ env. implication_true _ _ (λ h. equal_true _ _ (pair_again (X env) h)) })
    (either (k == 12) (record { calls = refl; true' = λ env. implication_true _ _ (λ h. equal_true _ _ (no_car (X env) (true_not _ h))) })
    (either (k == 13) (record { calls = refl; true' = λ env. implication_true _ _ (λ h. equal_true _ _ (no_cdr (X env) (true_not _ h))) })
    (either (k == 14) (record { calls = refl; true' = λ env. implication_true _ _ (λ h. not_true _ (pair_no_int (X env) h)) })
    (either (k == 15) (record { calls = refl; true' = λ env. implication_true _ _ (λ h. not_true _ (pair_no_sym (X env) h)) })
    (record { calls = refl; true' = λ env. implication_true _ _ (λ h. not_true _ (int_no_sym (X env) h)) }))))))))

integer_truths : (k : ℕ) → IsTruth (on_integers k)
unfolding primitive primitives on_integers
integer_truths k =
    either (k == 17) (record { calls = refl; true' = λ env. equal_true T T refl })
    (either (k == 18) (record { calls = refl; true' = λ env. equal_true T T refl })
    (either (k == 19) (record { calls = refl; true' = λ env. equal_true T T refl })
    (either (k == 20) (record { calls = refl; true' = λ env. implication_true _ _ (λ h. equal_true _ _ (ap (λ n. Int (n +ℤ number (Y env))) (no_number (X env) (true_not _ h)))) })
    (either (k == 21) (record { calls = refl; true' = λ env. implication_true _ _ (λ h. equal_true _ _ (ap (λ n. Int (n *ℤ number (Y env))) (no_number (X env) (true_not _ h)) ∙ ap Int (zero-*ℤ (number (Y env))))) })
    (either (k == 22) (record { calls = refl; true' = λ env. implication_true _ _ (λ h. equal_true _ _ (ap (λ n. Int (neg_ℤ n)) (no_number (X env) (true_not _ h)))) })
    (record { calls = refl; true' = λ env. implication_true _ _ (λ h. equal_true _ _ (ap Int (+ℤ_idl (number (X env))) ∙ a_number (X env) h)) }))))))

order_truths : (k : ℕ) → IsTruth (on_order k)
unfolding primitive primitives on_order
order_truths k =
    either (k == 24) (record { calls = refl; true' = λ env. not_true _ (irreflexive (number (X env))) })
    (either (k == 25) (record { calls = refl; true' = λ env. implication_true _ _ (λ h. implication_true _ _ (λ g. is_true _ (transitive (number (X env)) (number (Y env)) (number (Z env)) (true_is _ h) (true_is _ g)))) })
    (either (k == 26) (record { calls = refl; true' = λ env. implication_true _ _ (λ h. implication_true _ _ (λ g. equal_true _ _ (ap (λ n. Int (pos 0 +ℤ n)) (antisymmetric (number (X env)) (number (Y env)) (true_not _ h) (true_not _ g))))) })
    (either (k == 27) (record { calls = refl; true' = λ env. equal_true _ _ (ap truth (shifted (number (X env)) (number (Y env)) (number (Z env)))) })
    (either (k == 28) (record { calls = refl; true' = λ env. implication_true _ _ (λ h. not_true _ (next_above (number (X env)) (number (Y env)) (true_is _ h))) })
    (either (k == 29) (record { calls = refl; true' = λ env. implication_true _ _ (λ h. implication_true _ _ (λ g. is_true _ (product_above (number (X env)) (number (Y env)) (true_is _ h) (true_is _ g)))) })
    (either (k == 30) (record { calls = refl; true' = λ env. equal_true _ _ (ap (λ n. truth (int_lt n (number (Y env)))) (+ℤ_idl (number (X env)))) })
    (record { calls = refl; true' = λ env. equal_true _ _ (ap (λ n. truth (int_lt (number (X env)) n)) (+ℤ_idl (number (Y env)))) })))))))

count_truths : (k : ℕ) → IsTruth (on_counts k)
unfolding primitive primitives on_counts
count_truths k =
    either (k == 32) (record { calls = refl; true' = λ env. implication_true _ _ (λ h. equal_true _ _ (size_of_pair (X env) h)) })
    (either (k == 33) (record { calls = refl; true' = λ env. natural_size (size (X env)) })
    (either (k == 34) (record { calls = refl; true' = λ env. implication_true _ _ (λ h. equal_true _ _ (size_of_int (X env) h)) })
    (record { calls = refl; true' = λ env. implication_true _ _ (λ h. equal_true _ _ (size_of_sym (X env) h)) })))

if_axiom : (b : Bool) (t : Tm) (o : Option Tm) (a : Tm) → (if b then Some t else o) ≡ Some a → IsTruth t → (o ≡ Some a → IsTruth a) → IsTruth a
if_axiom true t o a e p q = let same : t ≡ a = cc in subst IsTruth same p
if_axiom false t o a e p q = q e

-- there is an axiom where the number is from 1 to 35
some_if : (b : Bool) (t : Tm) (o : Option Tm) (c : Bool) → (b ≡ true → c ≡ true) → is_some o ≡ c → is_some (if b then Some t else o) ≡ c
some_if true t o c h g = sym (h refl)
some_if false t o c h g = g

last : (b : Bool) (t : Tm) → is_some (if b then Some t else None) ≡ b
last true t = refl
last false t = refl

up_to : (k n m : ℕ) → n ≤ m → nat_le k n ≡ true → nat_le k m ≡ true
up_to k n m l h = le-leb k m (omega (arith, leb-true k n h))

positive : (k : ℕ) → (k == 0) ≡ false → 1 ≤ k
positive zero e = absurd (cc)
positive (suc k) e = omega arith

from_one : (k : ℕ) (o : Option Tm) → is_some o ≡ nat_le k 35 → (nat_le 1 k && nat_le k 35) ≡ is_some (if k == 0 then None else o)
from_one k o h = by_test (k == 0) refl
  where
    by_test : (b : Bool) → (k == 0) ≡ b → (nat_le 1 k && nat_le k 35) ≡ is_some (if b then None else o)
    by_test true e = ap (λ b. b && nat_le k 35) (lt-leb 1 k (omega (arith, eqb-true k 0 e)))
    by_test false e = ap (λ b. b && nat_le k 35) (le-leb 1 k (positive k e)) ∙ sym h

pub is_numbered : (k : ℕ) → (nat_le 1 k && nat_le k 35) ≡ is_some (axiom_at k)
unfolding axiom_at
is_numbered k =
    from_one k _
    (some_if (nat_le k 7) (on_truth k) _ (nat_le k 35) (up_to k 7 35 (omega arith))
    (some_if (nat_le k 16) (on_pairs k) _ (nat_le k 35) (up_to k 16 35 (omega arith))
    (some_if (nat_le k 23) (on_integers k) _ (nat_le k 35) (up_to k 23 35 (omega arith))
    (some_if (nat_le k 31) (on_order k) _ (nat_le k 35) (up_to k 31 35 (omega arith)) (last (nat_le k 35) (on_counts k))))))

pub axiom_truth : (k : ℕ) (a : Tm) → axiom_at k ≡ Some a → IsTruth a
unfolding axiom_at
axiom_truth k a e = from_zero (k == 0) e
  where
    from_counts : (if nat_le k 35 then Some (on_counts k) else None) ≡ Some a → IsTruth a
    from_counts h = if_axiom (nat_le k 35) (on_counts k) None a h (count_truths k) (λ g. absurd (cc))

    from_order : (if nat_le k 31 then Some (on_order k) else if nat_le k 35 then Some (on_counts k) else None) ≡ Some a → IsTruth a
    from_order h = if_axiom (nat_le k 31) (on_order k) _ a h (order_truths k) from_counts

    from_zero : (b : Bool) → (if b then None else if nat_le k 7 then Some (on_truth k) else if nat_le k 16 then Some (on_pairs k) else if nat_le k 23 then Some (on_integers k) else if nat_le k 31 then Some (on_order k) else if nat_le k 35 then Some (on_counts k) else None) ≡ Some a → IsTruth a
    from_zero true h = absurd (cc)
    from_zero false h =
        if_axiom (nat_le k 7) (on_truth k) _ a h (truths k)
        (λ h2. if_axiom (nat_le k 16) (on_pairs k) _ a h2 (pair_truths k) (λ h3. if_axiom (nat_le k 23) (on_integers k) _ a h3 (integer_truths k) from_order))
