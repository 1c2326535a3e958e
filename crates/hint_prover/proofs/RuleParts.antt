-- The parts of a rule's formula.
use Rattle.std.proofs.Common.{◌≡◌, ◌<◌, Bool, true, false, cond, bytes_eq, codes, Option, Some, None, refl, ap, ◌∙◌}
use Rattle.terms.specs.BuiltIn.{no}
use Rattle.terms.specs.Terms.{Tm, Var, Quote, Call, Tms, Done, More, same_tm, depth, substitute}
use Rattle.terms.specs.Substitution.{Pairs, by_pairs}
use Rattle.terms.specs.Evaluation.{then_with}
use Rattle.reduction.specs.Finding.{of_two, of_three, two_args, three_args}
use Rattle.reduction.specs.Hyps.{quoted_nil}
use Rattle.hints.proofs.Parts.{remains-more, remains-end, depth-after, depth-first, depth-second}
use Rattle.reduction_proofs.specs.Trees.{Proof, IfTrue, ImpliesOut}
use Rattle.reduction_proofs.specs.Derived.{back}
use Rattle.reduction_proofs.specs.Reasons.{decided, part_proved, part_in, detached, detached_in}

some_is : {A : Type 0} {x y : A} → Some x ≡ Some y → x ≡ y
some_is e = cc

abbrev both_proved : Pairs → Tm → Tm → Tm → Proof
both_proved s t p q = back (IfTrue (part_proved s p) (substitute (by_pairs s) q) no) (substitute (by_pairs s) t) (part_proved s q)

-- of (if p q 'nil), both
pub part-both : (s : Pairs) (t p q r : Tm) → of_three (codes "IF") t ≡ Some (p, q, r) → same_tm r quoted_nil ≡ true →
    part_proved s t ≡ back (IfTrue (part_proved s p) (substitute (by_pairs s) q) no) (substitute (by_pairs s) t) (part_proved s q)
part-both s (Var x) p q r e n = absurd (cc)
part-both s (Quote v) p q r e n = absurd (cc)
part-both s (Call f ts) p q r e n = by_name (bytes_eq f (codes "IF")) ts e
  where
    by_name : (b : Bool) (us : Tms) → then_with (cond b (Some us) None) three_args ≡ Some (p, q, r) →
        cond b (part_in s (Call f ts) us) (decided (substitute (by_pairs s) (Call f ts))) ≡ both_proved s (Call f ts) p q
    by_name false us e = absurd (cc)
    by_name true Done e = absurd (cc)
    by_name true (More a Done) e = absurd (cc)
    by_name true (More a (More b Done)) e = absurd (cc)
    by_name true (More a (More b (More c Done))) e =
        let z : (a, b, c) ≡ (p, q, r) = some_is e in
        let i : a ≡ p = ap (λ (z : Tm × Tm × Tm). z.0) z in
        let j : b ≡ q = ap (λ (z : Tm × Tm × Tm). z.1) z in
        let k : c ≡ r = ap (λ (z : Tm × Tm × Tm). z.2) z in
        ap (λ x. cond x (both_proved s (Call f ts) a b) (decided (substitute (by_pairs s) (Call f ts)))) (ap (λ z. same_tm z quoted_nil) k ∙ n)
        ∙ ap (λ x. both_proved s (Call f ts) x b) i ∙ ap (λ y. both_proved s (Call f ts) p y) j
    by_name true (More a (More b (More c (More d us)))) e = absurd (cc)

-- another hypothesis is decided whole
pub part-other : (s : Pairs) (t p q r : Tm) → of_three (codes "IF") t ≡ Some (p, q, r) → same_tm r quoted_nil ≡ false →
    part_proved s t ≡ decided (substitute (by_pairs s) t)
part-other s (Var x) p q r e n = refl
part-other s (Quote v) p q r e n = refl
part-other s (Call f ts) p q r e n = by_name (bytes_eq f (codes "IF")) ts e
  where
    by_name : (b : Bool) (us : Tms) → then_with (cond b (Some us) None) three_args ≡ Some (p, q, r) →
        cond b (part_in s (Call f ts) us) (decided (substitute (by_pairs s) (Call f ts))) ≡ decided (substitute (by_pairs s) (Call f ts))
    by_name false us e = refl
    by_name true Done e = refl
    by_name true (More a Done) e = refl
    by_name true (More a (More b Done)) e = refl
    by_name true (More a (More b (More c Done))) e =
        let z : (a, b, c) ≡ (p, q, r) = some_is e in
        let k : c ≡ r = ap (λ (z : Tm × Tm × Tm). z.2) z in
        ap (λ x. cond x (both_proved s (Call f ts) a b) (decided (substitute (by_pairs s) (Call f ts)))) (ap (λ z. same_tm z quoted_nil) k ∙ n)
    by_name true (More a (More b (More c (More d us)))) e = refl

pub part-single : (s : Pairs) (t : Tm) → of_three (codes "IF") t ≡ None → part_proved s t ≡ decided (substitute (by_pairs s) t)
part-single s (Var x) e = refl
part-single s (Quote v) e = refl
part-single s (Call f ts) e = by_name (bytes_eq f (codes "IF")) ts e
  where
    by_name : (b : Bool) (us : Tms) → then_with (cond b (Some us) None) three_args ≡ None →
        cond b (part_in s (Call f ts) us) (decided (substitute (by_pairs s) (Call f ts))) ≡ decided (substitute (by_pairs s) (Call f ts))
    by_name false us e = refl
    by_name true Done e = refl
    by_name true (More a Done) e = refl
    by_name true (More a (More b Done)) e = refl
    by_name true (More a (More b (More c Done))) e = absurd (cc)
    by_name true (More a (More b (More c (More d us)))) e = refl

pub ruleset parts = (part-both, part-other, part-single, depth-first, depth-second)

-- (implies a b)
pub detached-more : (s : Pairs) (t a b : Tm) (F : Proof) → of_two (codes "IMPLIES") t ≡ Some (a, b) →
    detached s t F ≡ detached s b (ImpliesOut F (part_proved s a))
detached-more s (Var x) a b F e = absurd (cc)
detached-more s (Quote v) a b F e = absurd (cc)
detached-more s (Call f ts) a b F e = by_name (bytes_eq f (codes "IMPLIES")) ts e
  where
    by_name : (t : Bool) (us : Tms) → then_with (cond t (Some us) None) two_args ≡ Some (a, b) →
        cond t (detached_in s us F) F ≡ detached s b (ImpliesOut F (part_proved s a))
    by_name false us e = absurd (cc)
    by_name true Done e = absurd (cc)
    by_name true (More c Done) e = absurd (cc)
    by_name true (More c (More d Done)) e =
        let z : (c, d) ≡ (a, b) = some_is e in
        ap (λ x. detached s d (ImpliesOut F (part_proved s x))) (ap (λ (z : Tm × Tm). z.0) z)
        ∙ ap (λ y. detached s y (ImpliesOut F (part_proved s a))) (ap (λ (z : Tm × Tm). z.1) z)
    by_name true (More c (More d (More x us))) e = absurd (cc)

pub detached-end : (s : Pairs) (t : Tm) (F : Proof) → of_two (codes "IMPLIES") t ≡ None → detached s t F ≡ F
detached-end s (Var x) F e = refl
detached-end s (Quote v) F e = refl
detached-end s (Call f ts) F e = by_name (bytes_eq f (codes "IMPLIES")) ts e
  where
    by_name : (t : Bool) (us : Tms) → then_with (cond t (Some us) None) two_args ≡ None → cond t (detached_in s us F) F ≡ F
    by_name false us e = refl
    by_name true Done e = refl
    by_name true (More c Done) e = refl
    by_name true (More c (More d Done)) e = absurd (cc)
    by_name true (More c (More d (More x us))) e = refl

pub ruleset formulas = (detached-more, detached-end, remains-more, remains-end, depth-after)
