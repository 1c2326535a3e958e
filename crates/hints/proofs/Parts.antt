-- The parts of formulas.
use Rattle.std.proofs.Common.{◌≡◌, ◌<◌, ℕ, Bool, true, false, cond, bytes_eq, codes, List, [], ◌∷◌, ◌++◌, append_assoc, append-nil, Option, Some, None, refl, ap, sym, subst, ◌∙◌, arith}
use Rattle.terms.specs.Terms.{Tm, Var, Quote, Call, Tms, Done, More, same_tm, depth}
use Rattle.terms.specs.Evaluation.{then_with}
use Rattle.reduction.specs.Finding.{of_two, of_three, two_args, three_args}
use Rattle.reduction.specs.Hyps.{quoted_nil}
use Rattle.hints.specs.Formulas.{parts, parts_in, needs, needs_in, remains, remains_in}

some_is : {A : Type 0} {x y : A} → Some x ≡ Some y → x ≡ y
some_is e = cc

first_of : {a b c p q r : Tm} → ◌≡◌ {A = Option (Tm × Tm × Tm)} (Some (a, b, c)) (Some (p, q, r)) → a ≡ p
first_of e = ap (λ (z : Tm × Tm × Tm). z.0) (some_is e)

second_of : {a b c p q r : Tm} → ◌≡◌ {A = Option (Tm × Tm × Tm)} (Some (a, b, c)) (Some (p, q, r)) → b ≡ q
second_of e = ap (λ (z : Tm × Tm × Tm). z.1) (some_is e)

third_of : {a b c p q r : Tm} → ◌≡◌ {A = Option (Tm × Tm × Tm)} (Some (a, b, c)) (Some (p, q, r)) → c ≡ r
third_of e = ap (λ (z : Tm × Tm × Tm). z.2) (some_is e)

left_of : {a b p q : Tm} → ◌≡◌ {A = Option (Tm × Tm)} (Some (a, b)) (Some (p, q)) → a ≡ p
left_of e = ap (λ (z : Tm × Tm). z.0) (some_is e)

right_of : {a b p q : Tm} → ◌≡◌ {A = Option (Tm × Tm)} (Some (a, b)) (Some (p, q)) → b ≡ q
right_of e = ap (λ (z : Tm × Tm). z.1) (some_is e)

-- (if p q 'nil) gives the parts of p and q
pub parts-both : (t p q r : Tm) → of_three (codes "IF") t ≡ Some (p, q, r) → same_tm r quoted_nil ≡ true → parts t ≡ parts p ++ parts q
parts-both (Var x) p q r e n = absurd (cc)
parts-both (Quote v) p q r e n = absurd (cc)
parts-both (Call f ts) p q r e n = by_name (bytes_eq f (codes "IF")) ts e
  where
    by_name : (b : Bool) (us : Tms) → then_with (cond b (Some us) None) three_args ≡ Some (p, q, r) → cond b (parts_in (Call f ts) us) (Call f ts ∷ []) ≡ parts p ++ parts q
    by_name false us e = absurd (cc)
    by_name true Done e = absurd (cc)
    by_name true (More a Done) e = absurd (cc)
    by_name true (More a (More b Done)) e = absurd (cc)
    by_name true (More a (More b (More c Done))) e =
        let i : a ≡ p = first_of e in
        let j : b ≡ q = second_of e in
        let k : c ≡ r = third_of e in
        ap (λ x. cond x (parts a ++ parts b) (Call f ts ∷ [])) (ap (λ z. same_tm z quoted_nil) k ∙ n) ∙ ap (λ x. parts x ++ parts b) i ∙ ap (λ y. parts p ++ parts y) j
    by_name true (More a (More b (More c (More d us)))) e = absurd (cc)

-- another hypothesis is its own part
pub parts-other : (t p q r : Tm) → of_three (codes "IF") t ≡ Some (p, q, r) → same_tm r quoted_nil ≡ false → parts t ≡ t ∷ []
parts-other (Var x) p q r e n = refl
parts-other (Quote v) p q r e n = refl
parts-other (Call f ts) p q r e n = by_name (bytes_eq f (codes "IF")) ts e
  where
    by_name : (b : Bool) (us : Tms) → then_with (cond b (Some us) None) three_args ≡ Some (p, q, r) → cond b (parts_in (Call f ts) us) (Call f ts ∷ []) ≡ Call f ts ∷ []
    by_name false us e = refl
    by_name true Done e = refl
    by_name true (More a Done) e = refl
    by_name true (More a (More b Done)) e = refl
    by_name true (More a (More b (More c Done))) e =
        let k : c ≡ r = third_of e in
        ap (λ d. cond d (parts a ++ parts b) (Call f ts ∷ [])) (ap (λ z. same_tm z quoted_nil) k ∙ n)
    by_name true (More a (More b (More c (More d us)))) e = refl

pub parts-single : (t : Tm) → of_three (codes "IF") t ≡ None → parts t ≡ t ∷ []
parts-single (Var x) e = refl
parts-single (Quote v) e = refl
parts-single (Call f ts) e = by_name (bytes_eq f (codes "IF")) ts e
  where
    by_name : (b : Bool) (us : Tms) → then_with (cond b (Some us) None) three_args ≡ None → cond b (parts_in (Call f ts) us) (Call f ts ∷ []) ≡ Call f ts ∷ []
    by_name false us e = refl
    by_name true Done e = refl
    by_name true (More a Done) e = refl
    by_name true (More a (More b Done)) e = refl
    by_name true (More a (More b (More c Done))) e = absurd (cc)
    by_name true (More a (More b (More c (More d us)))) e = refl

-- the arguments are less deep
pub depth-three : (t p q r : Tm) → of_three (codes "IF") t ≡ Some (p, q, r) → (depth p < depth t) × (depth q < depth t)
depth-three (Var x) p q r e = absurd (cc)
depth-three (Quote v) p q r e = absurd (cc)
depth-three (Call f ts) p q r e = by_name (bytes_eq f (codes "IF")) ts e
  where
    by_name : (b : Bool) (us : Tms) → then_with (cond b (Some us) None) three_args ≡ Some (p, q, r) → (depth p < depth (Call f us)) × (depth q < depth (Call f us))
    by_name false us e = absurd (cc)
    by_name true Done e = absurd (cc)
    by_name true (More a Done) e = absurd (cc)
    by_name true (More a (More b Done)) e = absurd (cc)
    by_name true (More a (More b (More c Done))) e =
        let i : a ≡ p = first_of e in
        let j : b ≡ q = second_of e in
        (subst (λ x. depth x < depth (Call f (More a (More b (More c Done))))) i (omega arith), subst (λ x. depth x < depth (Call f (More a (More b (More c Done))))) j (omega arith))
    by_name true (More a (More b (More c (More d us)))) e = absurd (cc)

pub depth-first : (t p q r : Tm) → of_three (codes "IF") t ≡ Some (p, q, r) → depth p < depth t
depth-first t p q r e = (depth-three t p q r e).0

pub depth-second : (t p q r : Tm) → of_three (codes "IF") t ≡ Some (p, q, r) → depth q < depth t
depth-second t p q r e = (depth-three t p q r e).1

pub ruleset of_hyps = (parts-both, parts-other, parts-single, depth-first, depth-second, append_assoc)

-- (implies a b)
pub needs-more : (t a b : Tm) → of_two (codes "IMPLIES") t ≡ Some (a, b) → needs t ≡ parts a ++ needs b
needs-more (Var x) a b e = absurd (cc)
needs-more (Quote v) a b e = absurd (cc)
needs-more (Call f ts) a b e = by_name (bytes_eq f (codes "IMPLIES")) ts e
  where
    by_name : (t : Bool) (us : Tms) → then_with (cond t (Some us) None) two_args ≡ Some (a, b) → cond t (needs_in us) [] ≡ parts a ++ needs b
    by_name false us e = absurd (cc)
    by_name true Done e = absurd (cc)
    by_name true (More c Done) e = absurd (cc)
    by_name true (More c (More d Done)) e =
        let i : c ≡ a = left_of e in
        let j : d ≡ b = right_of e in
        ap (λ x. parts x ++ needs d) i ∙ ap (λ y. parts a ++ needs y) j
    by_name true (More c (More d (More x us))) e = absurd (cc)

pub needs-end : (t : Tm) → of_two (codes "IMPLIES") t ≡ None → needs t ≡ []
needs-end (Var x) e = refl
needs-end (Quote v) e = refl
needs-end (Call f ts) e = by_name (bytes_eq f (codes "IMPLIES")) ts e
  where
    by_name : (t : Bool) (us : Tms) → then_with (cond t (Some us) None) two_args ≡ None → cond t (needs_in us) [] ≡ []
    by_name false us e = refl
    by_name true Done e = refl
    by_name true (More c Done) e = refl
    by_name true (More c (More d Done)) e = absurd (cc)
    by_name true (More c (More d (More x us))) e = refl

pub remains-more : (t a b : Tm) → of_two (codes "IMPLIES") t ≡ Some (a, b) → remains t ≡ remains b
remains-more (Var x) a b e = absurd (cc)
remains-more (Quote v) a b e = absurd (cc)
remains-more (Call f ts) a b e = by_name (bytes_eq f (codes "IMPLIES")) ts e
  where
    by_name : (t : Bool) (us : Tms) → then_with (cond t (Some us) None) two_args ≡ Some (a, b) → cond t (remains_in (Call f ts) us) (Call f ts) ≡ remains b
    by_name false us e = absurd (cc)
    by_name true Done e = absurd (cc)
    by_name true (More c Done) e = absurd (cc)
    by_name true (More c (More d Done)) e = let j : d ≡ b = right_of e in ap remains j
    by_name true (More c (More d (More x us))) e = absurd (cc)

pub remains-end : (t : Tm) → of_two (codes "IMPLIES") t ≡ None → remains t ≡ t
remains-end (Var x) e = refl
remains-end (Quote v) e = refl
remains-end (Call f ts) e = by_name (bytes_eq f (codes "IMPLIES")) ts e
  where
    by_name : (t : Bool) (us : Tms) → then_with (cond t (Some us) None) two_args ≡ None → cond t (remains_in (Call f ts) us) (Call f ts) ≡ Call f ts
    by_name false us e = refl
    by_name true Done e = refl
    by_name true (More c Done) e = refl
    by_name true (More c (More d Done)) e = absurd (cc)
    by_name true (More c (More d (More x us))) e = refl

pub depth-after : (t a b : Tm) → of_two (codes "IMPLIES") t ≡ Some (a, b) → depth b < depth t
depth-after (Var x) a b e = absurd (cc)
depth-after (Quote v) a b e = absurd (cc)
depth-after (Call f ts) a b e = by_name (bytes_eq f (codes "IMPLIES")) ts e
  where
    by_name : (t : Bool) (us : Tms) → then_with (cond t (Some us) None) two_args ≡ Some (a, b) → depth b < depth (Call f us)
    by_name false us e = absurd (cc)
    by_name true Done e = absurd (cc)
    by_name true (More c Done) e = absurd (cc)
    by_name true (More c (More d Done)) e = let j : d ≡ b = right_of e in subst (λ x. depth x < depth (Call f (More c (More d Done)))) j (omega arith)
    by_name true (More c (More d (More x us))) e = absurd (cc)

pub ruleset of_formulas = (needs-more, needs-end, remains-more, remains-end, depth-after, append_assoc, append-nil)
