-- The number of a term is the sum of its monomials, so that terms with the same coefficients have the same number.
use Rattle.std.proofs.Common.{◌≡◌, Bool, true, false, cond, List, [], ◌∷◌, ◌++◌, ℤ, pos, ◌+ℤ◌, ◌*ℤ◌, neg_ℤ, bytes_eq, codes, refl, sym, ap, ap₂, ◌∙◌}
use Rattle.std.proofs.Math.IntN.{zero-*ℤ, *ℤ-zero, +ℤ_idr}
use Rattle.lisp_data.specs.Values.{Name, Val, Int, Sym, Pair}
use Rattle.terms.specs.Primitives.{number}
use Rattle.terms.specs.Terms.{Tm, Var, Quote, Call, Done, More}
use Rattle.terms.proofs.Names.{same_name}
use Rattle.terms.proofs.Models.{val}
use Rattle.ring_laws.specs.Expressions.{Expression, Literal, Atom, Sum, Product, Negation, of_value, of_one, of_two, expression, is_ring, is_arithmetic}
use Rattle.ring_laws.specs.FormalSums.{coefficient, negated, times_each, products}
use Rattle.ring_laws.specs.Polynomials.{Monomials, alike, monomials, SamePolynomial}
use Rattle.ring_laws.proofs.Integers.{product-sum, one-product, product-one, sum-product, product-swap}
use Rattle.ring_laws.proofs.Sums.{weighted, weighted-more, weighted-none, weighted-append, weighted-negated, same_weight}
use Rattle.ring_laws.proofs.Multisets.{alike_laws, power, power-none, power-more, power-append, same_power}

-- where each atom has a number
module _ (num : Tm → ℤ) where
  pub sum : Monomials → ℤ
  sum es = weighted (List Tm) alike (power num) es

  pub meaning : Expression → ℤ
  meaning (Literal n) = n
  meaning (Atom a) = num a
  meaning (Sum p q) = meaning p +ℤ meaning q
  meaning (Product p q) = meaning p *ℤ meaning q
  meaning (Negation p) = neg_ℤ (meaning p)

  one : (e : List Tm × ℤ) → sum (e ∷ []) ≡ e.1 *ℤ power num e.0
  unfolding sum
  one e = weighted-more (List Tm) alike (power num) e [] ∙ ap (λ x. e.1 *ℤ power num e.0 +ℤ x) (weighted-none (List Tm) alike (power num)) ∙ +ℤ_idr _

  sum-negated : (es : Monomials) → sum (negated es) ≡ neg_ℤ (sum es)
  unfolding sum
  sum-negated es = weighted-negated _ alike (power num) es

  sum-append : (ds es : Monomials) → sum (ds ++ es) ≡ sum ds +ℤ sum es
  unfolding sum
  sum-append ds es = weighted-append _ alike (power num) ds es

  sum-times_each : (d : List Tm × ℤ) (es : Monomials) → sum (times_each (λ k m. k ++ m) d es) ≡ (d.1 *ℤ power num d.0) *ℤ sum es
  unfolding sum
  sum-times_each d [] =
      weighted-none _ alike (power num) ∙ sym (ap (λ x. (d.1 *ℤ power num d.0) *ℤ x) (weighted-none _ alike (power num)) ∙ *ℤ-zero (d.1 *ℤ power num d.0))
  sum-times_each d (e ∷ es) =
      weighted-more _ alike (power num) (d.0 ++ e.0, d.1 *ℤ e.1) (times_each (λ k m. k ++ m) d es)
      ∙ ap₂ (λ x y. x +ℤ y)
      (ap (λ x. (d.1 *ℤ e.1) *ℤ x) (power-append num d.0 e.0) ∙ product-swap d.1 e.1 (power num d.0) (power num e.0))
      (sum-times_each d es)
      ∙ sym (product-sum (d.1 *ℤ power num d.0) (e.1 *ℤ power num e.0) (sum es))
      ∙ sym (ap (λ x. (d.1 *ℤ power num d.0) *ℤ x) (weighted-more _ alike (power num) e es))

  sum-products : (ds es : Monomials) → sum (products (λ k m. k ++ m) ds es) ≡ sum ds *ℤ sum es
  unfolding sum
  sum-products [] es = weighted-none _ alike (power num) ∙ sym (ap (λ x. x *ℤ sum es) (weighted-none _ alike (power num)) ∙ zero-*ℤ (sum es))
  sum-products (d ∷ ds) es =
      weighted-append _ alike (power num) (times_each (λ k m. k ++ m) d es) (products (λ k m. k ++ m) ds es)
      ∙ ap₂ (λ x y. x +ℤ y) (sum-times_each d es) (sum-products ds es)
      ∙ sym (sum-product (d.1 *ℤ power num d.0) (sum ds) (sum es))
      ∙ sym (ap (λ x. x *ℤ sum es) (weighted-more _ alike (power num) d ds))

  -- an expression means the sum of its monomials
  pub meaning-sum : (e : Expression) → meaning e ≡ sum (monomials e)
  unfolding meaning
  meaning-sum (Literal n) = sym (one ([], n) ∙ ap (λ x. n *ℤ x) (power-none num) ∙ product-one n)
  meaning-sum (Atom a) =
      sym (one (a ∷ [], pos 1) ∙ one-product (power num (a ∷ [])) ∙ power-more num a [] ∙ ap (λ x. num a *ℤ x) (power-none num) ∙ product-one (num a))
  meaning-sum (Sum p q) = ap₂ (λ x y. x +ℤ y) (meaning-sum p) (meaning-sum q) ∙ sym (sum-append (monomials p) (monomials q))
  meaning-sum (Product p q) = ap₂ (λ x y. x *ℤ y) (meaning-sum p) (meaning-sum q) ∙ sym (sum-products (monomials p) (monomials q))
  meaning-sum (Negation p) = ap neg_ℤ (meaning-sum p) ∙ sym (sum-negated (monomials p))

  -- equal coefficients give equal sums
  pub same_sums : (ds es : Monomials) → ((m : List Tm) → coefficient alike ds m ≡ coefficient alike es m) → sum ds ≡ sum es
  unfolding sum
  same_sums ds es h = same_weight (List Tm) alike alike_laws (power num) (same_power num) ds es h

-- where the functions of arithmetic do what they are for
module _ (F : Name → List Val → Val) (env : Name → Val)
    (plus : (x y : Val) → F (codes "BINARY-+") (x ∷ y ∷ []) ≡ Int (number x +ℤ number y))
    (times : (x y : Val) → F (codes "BINARY-*") (x ∷ y ∷ []) ≡ Int (number x *ℤ number y))
    (minus : (x : Val) → F (codes "UNARY--") (x ∷ []) ≡ Int (neg_ℤ (number x))) where
  abbrev num : Tm → ℤ
  num a = number (val F a env)

  -- what a term is read as means the term's number, which is its value where it is arithmetic
  abbrev Means : Val → Expression → Type 0
  Means v e = (number v ≡ meaning num e) × (is_ring e ≡ true → v ≡ Int (meaning num e))

  atom_means : (a : Tm) → Means (val F a env) (Atom a)
  unfolding meaning
  atom_means a = (refl, λ e. cc)

  value_means : (v : Val) → Means v (of_value v)
  unfolding meaning
  value_means (Int n) = (refl, λ e. refl)
  value_means (Sym s) = (refl, λ e. cc)
  value_means (Pair a b) = (refl, λ e. cc)

  int_means : (v : Val) (e : Expression) → v ≡ Int (meaning num e) → Means v e
  int_means v e h = (ap number h, λ r. h)

  one_means : (f : Name) (a : Tm) → Means (val F a env) (expression a) → Means (F f (val F a env ∷ [])) (of_one f (Call f (More a Done)) (expression a))
  unfolding meaning
  one_means f a h = by_test (bytes_eq f (codes "UNARY--")) refl
    where
      by_test : (t : Bool) → bytes_eq f (codes "UNARY--") ≡ t → Means (F f (val F a env ∷ [])) (cond t (Negation (expression a)) (Atom (Call f (More a Done))))
      by_test false e = atom_means (Call f (More a Done))
      by_test true e =
          int_means _ (Negation (expression a)) (ap (λ g. F g (val F a env ∷ [])) (same_name f (codes "UNARY--") e) ∙ minus (val F a env) ∙ ap (λ x. Int (neg_ℤ x)) h.0)

  two_means : (f : Name) (a b : Tm) → Means (val F a env) (expression a) → Means (val F b env) (expression b) → Means (F f (val F a env ∷ val F b env ∷ [])) (of_two f (Call f (More a (More b Done))) (expression a) (expression b))
  unfolding meaning
  two_means f a b h k = by_plus (bytes_eq f (codes "BINARY-+")) refl
    where
      by_times : (t : Bool) → bytes_eq f (codes "BINARY-*") ≡ t → Means (F f (val F a env ∷ val F b env ∷ [])) (cond t (Product (expression a) (expression b)) (Atom (Call f (More a (More b Done)))))
      by_times false e = atom_means (Call f (More a (More b Done)))
      by_times true e =
          int_means _ (Product (expression a) (expression b)) (ap (λ g. F g (val F a env ∷ val F b env ∷ [])) (same_name f (codes "BINARY-*") e) ∙ times (val F a env) (val F b env) ∙ ap₂ (λ x y. Int (x *ℤ y)) h.0 k.0)

      by_plus : (t : Bool) → bytes_eq f (codes "BINARY-+") ≡ t → Means (F f (val F a env ∷ val F b env ∷ [])) (cond t (Sum (expression a) (expression b)) (cond (bytes_eq f (codes "BINARY-*")) (Product (expression a) (expression b)) (Atom (Call f (More a (More b Done))))))
      by_plus false e = by_times (bytes_eq f (codes "BINARY-*")) refl
      by_plus true e =
          int_means _ (Sum (expression a) (expression b)) (ap (λ g. F g (val F a env ∷ val F b env ∷ [])) (same_name f (codes "BINARY-+") e) ∙ plus (val F a env) (val F b env) ∙ ap₂ (λ x y. Int (x +ℤ y)) h.0 k.0)

  means : (t : Tm) → Means (val F t env) (expression t)
  means (Var x) = atom_means (Var x)
  means (Quote v) = value_means v
  means (Call f Done) = atom_means (Call f Done)
  means (Call f (More a Done)) = one_means f a (means a)
  means (Call f (More a (More b Done))) = two_means f a b (means a) (means b)
  means (Call f (More a (More b (More c ts)))) = atom_means (Call f (More a (More b (More c ts))))

  -- arithmetic terms with the same coefficients have the same value
  pub same_values : (a b : Tm) → is_arithmetic a ≡ true → is_arithmetic b ≡ true → SamePolynomial a b → val F a env ≡ val F b env
  same_values a b r s h =
      (means a).1 r
      ∙ ap Int (meaning-sum num (expression a) ∙ same_sums num (monomials (expression a)) (monomials (expression b)) h ∙ sym (meaning-sum num (expression b)))
      ∙ sym ((means b).1 s)
