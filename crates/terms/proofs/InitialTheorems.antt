-- The theorems that each book begins with are true by what their functions do.
use Rattle.std.proofs.Common.{◌≡◌, ◌≢◌, ℕ, zero, suc, ◌+◌, ◌<◌, Bool, true, false, cond, [], ◌∷◌, pos, negsuc, ◌+ℤ◌, int_lt, ltb, codes, Some, refl, sym, ap, ap₂, ◌∙◌, subst, arith}
use Rattle.std.proofs.lemmas.Bool.{lt-ltb, le-ltb}
use Rattle.std.proofs.lemmas.Int.{ints}
use Rattle.lisp_data.specs.Values.{Val, Int, Sym, Pair, nil, same_val}
use Rattle.terms.specs.Primitives.{One, primitive, primitives, size, truth, number, choose, is_nil, is_int, is_pair, car, cdr}
use Rattle.terms.specs.Definitions.{find}
use Rattle.terms.specs.Worlds.{Functions, Total}
use Rattle.terms.specs.BuiltIn.{zp_def, nfix_def}
use Rattle.terms.specs.InitialTheorems.{equal_same, count_car, count_cdr, natp_count, natp_nfix, natp_minus_1, nfix_minus_1, count_minus_1}
use Rattle.terms.specs.Formed.{AllFormed, HasBasics}
use Rattle.terms.proofs.Meaning.{value_self, nil_is, not_nil, arity_defined}
use Rattle.terms.proofs.Basics.{t_not_nil}
use Rattle.terms.proofs.Standard.{Table, IsTruth, Obeys, negation, implication, natural, basics_table, basics_arities, basics_do, does_one, does_body}

-- what `zp` and `nfix` do
abbrev pub is_zero : Val → Val
is_zero a = choose (truth (is_int a)) (negation (truth (int_lt (pos 0) (number a)))) (Sym (codes "T"))

abbrev pub fixed : Val → Val
fixed a = choose (natural a) a (Int (pos 0))

abbrev pub initial_table : Table
initial_table = (codes "ZP", One is_zero) ∷ (codes "NFIX", One fixed) ∷ basics_table

pub initial_obeys : (W : Functions) → AllFormed W.vars W.defs → HasBasics W → Total W → find W.defs (codes "ZP") ≡ Some zp_def → find W.defs (codes "NFIX") ≡ Some nfix_def → Obeys W initial_table
unfolding primitive primitives
initial_obeys W formed basics total has_zp has_nfix = record {
  total = total;
  arities = (arity_defined W formed (codes "ZP") zp_def has_zp, (arity_defined W formed (codes "NFIX") nfix_def has_nfix, basics_arities W formed basics));
  does = λ I M.
      let does = basics_do W I M formed basics in (
        does_one M.of (codes "ZP") is_zero (λ a. does_body W I M basics_table does formed zp_def has_zp refl (a ∷ []) refl),
        (
          does_one M.of (codes "NFIX") fixed (λ a. does_body W I M basics_table does formed nfix_def has_nfix refl (a ∷ []) refl),
          does,
        ),
      );
}

pub true_truth : (b : Bool) → b ≡ true → truth b ≢ nil
true_truth b e h = t_not_nil (ap truth (sym e) ∙ h)

pub not_truth : (b : Bool) → b ≡ false → negation (truth b) ≡ Sym (codes "T")
not_truth b e = ap (λ c. negation (truth c)) e

equal_true : (a : Val) → a ≡ Sym (codes "T") → truth (same_val a (Sym (codes "T"))) ≢ nil
equal_true a e = true_truth (same_val a (Sym (codes "T"))) (ap (λ b. same_val b (Sym (codes "T"))) e ∙ value_self (Sym (codes "T")))

implication_true : (a b : Val) → (a ≢ nil → b ≢ nil) → implication a b ≢ nil
implication_true a b h = by_test (is_nil a) refl (is_nil b) refl
  where
    by_test : (c : Bool) → is_nil a ≡ c → (d : Bool) → is_nil b ≡ d → cond (is_nil a) (Sym (codes "T")) (cond (is_nil b) nil (Sym (codes "T"))) ≢ nil
    by_test true e d f g = t_not_nil (ap (λ c. cond c (Sym (codes "T")) (cond (is_nil b) nil (Sym (codes "T")))) (sym e) ∙ g)
    by_test false e true f g = h (not_nil a e) (nil_is b f)
    by_test false e false f g = t_not_nil (ap₂ (λ c d. cond c (Sym (codes "T")) (cond d nil (Sym (codes "T")))) (sym e) (sym f) ∙ g)

less_true : (a b : ℕ) → a < b → truth (int_lt (pos a) (pos b)) ≢ nil
less_true a b h = true_truth (ltb a b) (lt-ltb a b h)

pub smaller_car : (v : Val) → truth (is_pair v) ≢ nil → truth (int_lt (pos (size (car v))) (pos (size v))) ≢ nil
smaller_car (Int a) h = absurd (h refl)
smaller_car (Sym s) h = absurd (h refl)
smaller_car (Pair a b) h = less_true (size a) (1 + size a + size b) (omega arith)

pub smaller_cdr : (v : Val) → truth (is_pair v) ≢ nil → truth (int_lt (pos (size (cdr v))) (pos (size v))) ≢ nil
smaller_cdr (Int a) h = absurd (h refl)
smaller_cdr (Sym s) h = absurd (h refl)
smaller_cdr (Pair a b) h = less_true (size b) (1 + size a + size b) (omega arith)

pub natural_is : (k : ℕ) → natural (Int (pos k)) ≡ Sym (codes "T")
natural_is k = not_truth (ltb k 0) (le-ltb k 0 (omega arith))

fixed_is : (k : ℕ) → fixed (Int (pos k)) ≡ Int (pos k)
fixed_is k = ap (λ t. choose t (Int (pos k)) (Int (pos 0))) (natural_is k)

natural_fixed : (v : Val) → natural (fixed v) ≡ Sym (codes "T")
natural_fixed (Int (pos k)) = ap natural (fixed_is k) ∙ natural_is k
natural_fixed (Int (negsuc k)) = refl
natural_fixed (Sym s) = refl
natural_fixed (Pair a b) = refl

-- what isn't zero for `zp` is a positive integer
positive : (v : Val) → negation (is_zero v) ≢ nil → (k : ℕ) × (v ≡ Int (pos (suc k)))
positive (Int (pos zero)) h = absurd (h refl)
positive (Int (pos (suc k))) h = (k, refl)
positive (Int (negsuc k)) h = absurd (h refl)
positive (Sym s) h = absurd (h refl)
positive (Pair a b) h = absurd (h refl)

one_less : (k : ℕ) → negsuc 0 +ℤ pos (suc k) ≡ pos k
one_less k = omega (arith, ints)

-- what is true of positive integers is true where `zp` isn't
where_positive : (P : Val → Val) → ((k : ℕ) → P (Int (pos (suc k))) ≢ nil) → (v : Val) → implication (negation (is_zero v)) (P v) ≢ nil
where_positive P h v =
    implication_true (negation (is_zero v)) (P v)
    (λ z. let p = positive v z in subst (λ w. P w ≢ nil) (sym p.1) (h p.0))

natural_less : (k : ℕ) → truth (same_val (natural (Int (negsuc 0 +ℤ pos (suc k)))) (Sym (codes "T"))) ≢ nil
natural_less k = equal_true (natural (Int (negsuc 0 +ℤ pos (suc k)))) (ap (λ z. natural (Int z)) (one_less k) ∙ natural_is k)

fixed_less : (k : ℕ) → truth (int_lt (number (fixed (Int (negsuc 0 +ℤ pos (suc k))))) (number (fixed (Int (pos (suc k)))))) ≢ nil
fixed_less k =
    let before : number (fixed (Int (negsuc 0 +ℤ pos (suc k)))) ≡ pos k = ap (λ z. number (fixed (Int z))) (one_less k) ∙ ap number (fixed_is k) in
    let after : number (fixed (Int (pos (suc k)))) ≡ pos (suc k) = ap number (fixed_is (suc k)) in
    true_truth _ (ap₂ int_lt before after ∙ lt-ltb k (suc k) (omega arith))

size_less : (k : ℕ) → truth (int_lt (pos (size (Int (negsuc 0 +ℤ pos (suc k))))) (pos (size (Int (pos (suc k)))))) ≢ nil
size_less k =
    let before : size (Int (negsuc 0 +ℤ pos (suc k))) ≡ k = ap (λ z. size (Int z)) (one_less k) in
    true_truth _ (ap (λ m. int_lt (pos m) (pos (suc k))) before ∙ lt-ltb k (suc k) (omega arith))

pub equal_same_true : IsTruth initial_table equal_same
unfolding primitive primitives
equal_same_true = record {
  universals = refl;
  hyps = tt;
  goal = refl;
  true' = λ env h. equal_true (truth (same_val (env (codes "X")) (env (codes "X")))) (ap truth (value_self (env (codes "X"))));
}

pub count_car_true : IsTruth initial_table count_car
unfolding primitive primitives
count_car_true = record {
  universals = refl;
  hyps = tt;
  goal = refl;
  true' = λ env h. implication_true _ _ (smaller_car (env (codes "X")));
}

pub count_cdr_true : IsTruth initial_table count_cdr
unfolding primitive primitives
count_cdr_true = record {
  universals = refl;
  hyps = tt;
  goal = refl;
  true' = λ env h. implication_true _ _ (smaller_cdr (env (codes "X")));
}

pub natp_count_true : IsTruth initial_table natp_count
unfolding primitive primitives
natp_count_true = record {
  universals = refl;
  hyps = tt;
  goal = refl;
  true' = λ env h. equal_true _ (natural_is (size (env (codes "X"))));
}

pub natp_nfix_true : IsTruth initial_table natp_nfix
unfolding primitive primitives
natp_nfix_true = record {
  universals = refl;
  hyps = tt;
  goal = refl;
  true' = λ env h. equal_true _ (natural_fixed (env (codes "N")));
}

pub natp_minus_1_true : IsTruth initial_table natp_minus_1
unfolding primitive primitives
natp_minus_1_true = record {
  universals = refl;
  hyps = tt;
  goal = refl;
  true' = λ env h. where_positive (λ v. truth (same_val (natural (Int (negsuc 0 +ℤ number v))) (Sym (codes "T")))) natural_less (env (codes "N"));
}

pub nfix_minus_1_true : IsTruth initial_table nfix_minus_1
unfolding primitive primitives
nfix_minus_1_true = record {
  universals = refl;
  hyps = tt;
  goal = refl;
  true' = λ env h. where_positive (λ v. truth (int_lt (number (fixed (Int (negsuc 0 +ℤ number v)))) (number (fixed v)))) fixed_less (env (codes "N"));
}

pub count_minus_1_true : IsTruth initial_table count_minus_1
unfolding primitive primitives
count_minus_1_true = record {
  universals = refl;
  hyps = tt;
  goal = refl;
  true' = λ env h. where_positive (λ v. truth (int_lt (pos (size (Int (negsuc 0 +ℤ number v)))) (pos (size v)))) size_less (env (codes "N"));
}
