-- What multiplying out answers, from what its parts do.
use Rattle.std.proofs.Common.{◌≡◌, ◌+◌, ◌*◌, ◌-◌, ◌^◌, ◌≤◌, ◌<◌, ℕ, Bool, true, false, cond, nat_lt, List, [], ◌∷◌, ◌++◌, length, ℤ, pos, nat_abs, Option, Some, None, Result, Ok, Err, bytes_eq, refl, sym, ap, ap₂, ◌∙◌, subst, rules, tests}
use Rattle.std.proofs.lemmas.Bool.{ltb-false}
use Rattle.std.specs.Option.{option_or}
use Rattle.std.proofs.lemmas.Cmp.{nat_list_eq_equiv}
use Rattle.terms.specs.Terms.{Tm}
use Rattle.ring_laws.specs.declared.errors.RingError.{RingError}
use Rattle.ring_laws.specs.declared.errors.RingError.TheVariants.{TooWide, TooLarge, Memory}
use Rattle.ring_laws.specs.declared.expansion.Expansion.{Expansion}
use Rattle.ring_laws.specs.Expressions.{Expression, Literal, Atom, Sum, Product, Negation, expression}
use Rattle.ring_laws.specs.FormalSums.{coefficient, support, negated, products, coefficients_agree}
use Rattle.ring_laws.specs.Polynomials.{monomials, norm, same_polynomial}
use Rattle.ring_laws.specs.Limits.{excess, own_excess, first_excess, excess_of}
use Rattle.ring_laws.specs.view.Held.{held, numbers, together, by_numbers, SameSum, HasAtoms, with_atoms}
use Rattle.ring_laws.specs.view.Expansions.{excess_at, SaysSum, SaysExpansion, SaysLimit}
use Rattle.ring_laws.proofs.Support.{same_size}
use Rattle.ring_laws.proofs.Numbers.{covered, size_key, compared, sum_expanded, product_expanded, negation_expanded, has_first, has_second}
use Rattle.ring_laws.specs.declared.limits.TheConstants.{MAX_MONOMIALS, MAX_NORM}

abbrev Keyed : Type 0
Keyed = List (List ℕ × ℤ)

at_along : (n : ℕ) (es fs : Keyed) → SameSum es fs → excess_at n es ≡ excess_at n fs
at_along n es fs h = ap (excess n) (same_size (List ℕ) bytes_eq nat_list_eq_equiv es fs h.same)

-- the same of a sum with the same coefficients
pub says_along : (r : Result Expansion RingError) (n : ℕ) (es fs : Keyed) → SameSum es fs → SaysSum r n es → SaysSum r n fs
says_along (Ok x) n es fs h s = (record { same = λ k. s.0.same k ∙ h.same k }, s.1, sym (at_along n es fs h) ∙ s.2)
says_along (Err TooWide) n es fs h s = sym (at_along n es fs h) ∙ s
says_along (Err TooLarge) n es fs h s = sym (at_along n es fs h) ∙ s
says_along (Err Memory) n es fs h s = tt

-- the sum of one entry
pub one_entry : (es zs : Keyed) (k k' : List ℕ) (z z' : ℤ) → zs ≡ [] → k' ≡ k → z' ≡ z → SameSum es ((k', z') ∷ zs) → SameSum es ((k, z) ∷ [])
one_entry es zs k k' z z' n e f h = record { same = λ q. h.same q ∙ ap (λ r. coefficient bytes_eq ((k', z') ∷ r) q) n ∙ ap₂ (λ x y. coefficient bytes_eq ((x, y) ∷ []) q) e f }

-- past the norm, whatever the sum is
pub says_wide : (n : ℕ) (es : Keyed) → MAX_NORM < n → SaysSum (Err TooWide) n es
says_wide n es h = ap (λ t. cond t (Some TooWide) (cond (nat_lt MAX_MONOMIALS (length (support bytes_eq es))) (Some TooLarge) None)) (lt_true MAX_NORM n h)
  where
    lt_true : (m k : ℕ) → m < k → nat_lt m k ≡ true
    lt_true m k l = search (tests, rules)

excess_is : (n : ℕ) (es : Keyed) (table : List Tm) (e : Expression) → n ≡ norm e → SameSum es (by_numbers table (monomials e)) → HasAtoms table e → excess_at n es ≡ own_excess e
excess_is n es table e i h a =
    ap₂ excess i (same_size (List ℕ) bytes_eq nat_list_eq_equiv es (by_numbers table (monomials e)) h.same ∙ size_key table (monomials e) (covered table e a))

-- an expression whose parts pass no limit
says : (r : Result Expansion RingError) (n : ℕ) (es : Keyed) (table : List Tm) (e : Expression) → n ≡ norm e → SameSum es (by_numbers table (monomials e)) → HasAtoms table e → first_excess e ≡ own_excess e → SaysSum r n es → SaysExpansion r table e
says (Ok x) n es table e i h a f s =
    (record { same = λ k. s.0.same k ∙ h.same k }, s.1 ∙ i, f ∙ sym (excess_is n es table e i h a) ∙ s.2)
says (Err TooWide) n es table e i h a f s = f ∙ sym (excess_is n es table e i h a) ∙ s
says (Err TooLarge) n es table e i h a f s = f ∙ sym (excess_is n es table e i h a) ∙ s
says (Err Memory) n es table e i h a f s = tt

same_itself : (es : Keyed) → SameSum es es
same_itself es = record { same = λ k. refl }

pub literal_says : (r : Result Expansion RingError) (table : List Tm) (n : ℤ) (e : Expression) → Literal n ≡ e → HasAtoms table e → SaysSum r (nat_abs n) ((numbers table [], n) ∷ []) → SaysExpansion r table e
literal_says r table n e i a s =
    subst (SaysExpansion r table) i (says r (nat_abs n) _ table (Literal n) refl (same_itself _) tt refl s)

pub atom_says : (r : Result Expansion RingError) (table : List Tm) (t : Tm) (e : Expression) → Atom t ≡ e → HasAtoms table e → SaysSum r 1 ((numbers table (t ∷ []), pos 1) ∷ []) → SaysExpansion r table e
atom_says r table t e i a s =
    subst (SaysExpansion r table) i (says r 1 _ table (Atom t) refl (same_itself _) (subst (HasAtoms table) (sym i) a) refl s)

-- ---- parts that pass no limit
both_none : (o p q : Option RingError) → o ≡ None → p ≡ None → option_or o (option_or p q) ≡ q
both_none o p q e f = ap₂ (λ x y. option_or x (option_or y q)) e f

pub sum_says : (r : Result Expansion RingError) (x y : Expansion) (table : List Tm) (p q e : Expression) → Sum p q ≡ e → HasAtoms table e → SaysExpansion (Ok x) table p → SaysExpansion (Ok y) table q → SaysSum r (x.norm + y.norm) (held x.polynomial.terms.entries ++ held y.polynomial.terms.entries) → SaysExpansion r table e
sum_says r x y table p q e i a sx sy s =
    subst (SaysExpansion r table) i (
    says r (x.norm + y.norm) _ table (Sum p q) (ap₂ (λ m n. m + n) sx.1 sy.1) (sum_expanded table p q _ _ sx.0 sy.0) (subst (HasAtoms table) (sym i) a)
    (both_none _ _ _ sx.2 sy.2) s
    )

pub product_says : (r : Result Expansion RingError) (x y : Expansion) (table : List Tm) (p q e : Expression) → Product p q ≡ e → HasAtoms table e → SaysExpansion (Ok x) table p → SaysExpansion (Ok y) table q → SaysSum r (x.norm * y.norm) (products together (held x.polynomial.terms.entries) (held y.polynomial.terms.entries)) → SaysExpansion r table e
product_says r x y table p q e i a sx sy s =
    subst (SaysExpansion r table) i (
    says r (x.norm * y.norm) _ table (Product p q) (ap₂ (λ m n. m * n) sx.1 sy.1) (product_expanded table p q _ _ sx.0 sy.0) (subst (HasAtoms table) (sym i) a)
    (both_none _ _ _ sx.2 sy.2) s
    )

pub negation_says : (r : Result Expansion RingError) (x : Expansion) (table : List Tm) (p e : Expression) → Negation p ≡ e → HasAtoms table e → SaysExpansion (Ok x) table p → SaysSum r x.norm (negated (held x.polynomial.terms.entries)) → SaysExpansion r table e
negation_says r x table p e i a sx s =
    subst (SaysExpansion r table) i (
    says r x.norm _ table (Negation p) sx.1 (negation_expanded table p _ sx.0) (subst (HasAtoms table) (sym i) a)
    (ap (λ o. option_or o (own_excess (Negation p))) sx.2) s
    )

-- ---- a part that passes one
abbrev Fails : RingError → Option RingError → Type 0
Fails TooWide o = o ≡ Some TooWide
Fails TooLarge o = o ≡ Some TooLarge
Fails Memory o = Unit {0}

pub fails : (x : RingError) (table : List Tm) (p e : Expression) → ((y : RingError) → first_excess p ≡ Some y → first_excess e ≡ Some y) → SaysExpansion (Err x) table p → SaysExpansion (Err x) table e
fails TooWide table p e h s = h TooWide s
fails TooLarge table p e h s = h TooLarge s
fails Memory table p e h s = tt

pub sum_first : (x : RingError) (table : List Tm) (p q e : Expression) → Sum p q ≡ e → SaysExpansion (Err x) table p → SaysExpansion (Err x) table e
sum_first x table p q e i s =
    fails x table p e (λ y f. ap first_excess (sym i) ∙ ap (λ o. option_or o (option_or (first_excess q) (own_excess (Sum p q)))) f) s

pub sum_second : (x : RingError) (a : Expansion) (table : List Tm) (p q e : Expression) → Sum p q ≡ e → SaysExpansion (Ok a) table p → SaysExpansion (Err x) table q → SaysExpansion (Err x) table e
sum_second x a table p q e i sa s =
    fails x table q e (λ y f. ap first_excess (sym i) ∙ ap₂ (λ o t. option_or o (option_or t (own_excess (Sum p q)))) sa.2 f) s

pub product_first : (x : RingError) (table : List Tm) (p q e : Expression) → Product p q ≡ e → SaysExpansion (Err x) table p → SaysExpansion (Err x) table e
product_first x table p q e i s =
    fails x table p e (λ y f. ap first_excess (sym i) ∙ ap (λ o. option_or o (option_or (first_excess q) (own_excess (Product p q)))) f) s

pub product_second : (x : RingError) (a : Expansion) (table : List Tm) (p q e : Expression) → Product p q ≡ e → SaysExpansion (Ok a) table p → SaysExpansion (Err x) table q → SaysExpansion (Err x) table e
product_second x a table p q e i sa s =
    fails x table q e (λ y f. ap first_excess (sym i) ∙ ap₂ (λ o t. option_or o (option_or t (own_excess (Product p q)))) sa.2 f) s

pub negation_first : (x : RingError) (table : List Tm) (p e : Expression) → Negation p ≡ e → SaysExpansion (Err x) table p → SaysExpansion (Err x) table e
negation_first x table p e i s =
    fails x table p e (λ y f. ap first_excess (sym i) ∙ ap (λ o. option_or o (own_excess (Negation p))) f) s

-- ---- where no limit is passed, the norm is within its own
or_none : (o p : Option RingError) → option_or o p ≡ None → p ≡ None
or_none None p e = e
or_none (Some x) p e = cc

own_none : (e : Expression) → first_excess e ≡ None → own_excess e ≡ None
own_none (Literal n) h = h
own_none (Atom a) h = h
own_none (Sum p q) h = or_none (first_excess q) _ (or_none (first_excess p) _ h)
own_none (Product p q) h = or_none (first_excess q) _ (or_none (first_excess p) _ h)
own_none (Negation p) h = or_none (first_excess p) _ h

narrow_excess : (n k : ℕ) → excess n k ≡ None → n ≤ MAX_NORM
narrow_excess n k h = by_test (nat_lt MAX_NORM n) refl h
  where
    by_test : (t : Bool) → nat_lt MAX_NORM n ≡ t → cond t (Some TooWide) (cond (nat_lt MAX_MONOMIALS k) (Some TooLarge) None) ≡ None → n ≤ MAX_NORM
    by_test true f g = cc
    by_test false f g = ltb-false MAX_NORM n f

pub narrow : (x : Expansion) (table : List Tm) (e : Expression) → SaysExpansion (Ok x) table e → x.norm ≤ MAX_NORM
narrow x table e s = subst (λ n. n ≤ MAX_NORM) (sym s.1) (narrow_excess (norm e) _ (own_none e s.2))

-- ---- two terms
pub limit_first : (x : RingError) (table : List Tm) (a b : Tm) → SaysExpansion (Err x) table (expression a) → SaysLimit {A = Bool} (Err x) (excess_of a b)
limit_first TooWide table a b s = ap (λ o. option_or o (first_excess (expression b))) s
limit_first TooLarge table a b s = ap (λ o. option_or o (first_excess (expression b))) s
limit_first Memory table a b s = tt

pub limit_second : (x : RingError) (p : Expansion) (table : List Tm) (a b : Tm) → SaysExpansion (Ok p) table (expression a) → SaysExpansion (Err x) table (expression b) → SaysLimit {A = Bool} (Err x) (excess_of a b)
limit_second TooWide p table a b h s = ap₂ option_or h.2 s
limit_second TooLarge p table a b h s = ap₂ option_or h.2 s
limit_second Memory p table a b h s = tt

pub no_limit : (r : Bool) (p q : Expansion) (table : List Tm) (a b : Tm) → SaysExpansion (Ok p) table (expression a) → SaysExpansion (Ok q) table (expression b) → SaysLimit {A = Bool} (Ok r) (excess_of a b)
no_limit r p q table a b h g = ap₂ option_or h.2 g.2

pub compared_terms : (p q : Expansion) (found : List Tm) (a b : Tm) → SaysExpansion (Ok p) (with_atoms (expression b) (with_atoms (expression a) found)) (expression a) → SaysExpansion (Ok q) (with_atoms (expression b) (with_atoms (expression a) found)) (expression b) → coefficients_agree bytes_eq (held p.polynomial.terms.entries) (held q.polynomial.terms.entries) ≡ same_polynomial a b
compared_terms p q found a b h g =
    compared _ (expression a) (expression b) _ _ (has_first (expression a) (expression b) found) (has_second (expression a) (expression b) found) h.0 g.0

pub ruleset expansions = (has_first, has_second, narrow)
