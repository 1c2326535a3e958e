-- The congruence of bodies proves the equation.
use Rattle.std.proofs.Common.{◌≡◌, ℕ, suc, Bool, true, false, cond, not, ◌&&◌, List, [], ◌∷◌, ◌++◌, bytes_eq, codes, Some, refl, sym, ap, ◌∙◌, subst, arith}
use Rattle.std.proofs.lemmas.Bool.{or_parts, and_parts, not-true}
use Rattle.lisp_data.specs.Values.{Name}
use Rattle.terms.specs.Formed.{HasBasics}
use Rattle.terms.specs.Measures.{mentions, mentions_in, Place, Plain, Test, tests_at, next, first_place}
use Rattle.terms.specs.Terms.{Tm, Var, Quote, Call, Tms, Done, More, count, OverAll, same_tm}
use Rattle.terms.specs.Worlds.{World, Functions, arity, Fits, Each}
use Rattle.terms.proofs.Later.{has_basics}
use Rattle.terms.proofs.Lists.{each_parts, each_join}
use Rattle.terms.proofs.Meaning.{arity_primitive}
use Rattle.terms.proofs.Models.{is_if}
use Rattle.terms.proofs.Names.{same_name}
use Rattle.terms.proofs.Same.{same_term}
use Rattle.kernel.specs.Sequents.{equation, negation, conditional}
use Rattle.kernel.proofs.Inversions.{fits_decides}
use Rattle.reduction_proofs.specs.Derived.{turned}
use Rattle.reduction_proofs.specs.Proving.{Within, Proves}
use Rattle.reduction_proofs.specs.Trees.{Proof, Hyp, Refl, Replace, IfTrue, IfFalse}
use Rattle.reduction_proofs.proofs.Deduction.{wider, by_hyp, by_refl, by_case, by_if_true, by_if_false}
use Rattle.reduction_proofs.proofs.Equations.{append, append_first, snoc, snoc-append, snoc-count, by_argument}
use Rattle.reduction_proofs.proofs.Members.{Fit, within_first, each_self, each_more, each_left, each_right}
use Rattle.reduction_proofs.proofs.Shortcuts.{fits_not, by_turned}
use Rattle.proof_builders.specs.Congruence.{args_in, first, others, Alike, AlikeAll, Difference, differing, differences, differences_in, Finder, IsFound, of_call, each_replaced, by_test, by_branches, of_args, congruence, congruences}
use Rattle.proof_builders.specs.Laws.{BodyCongruenceProves}
use Rattle.proof_builders.proofs.DerivedRules.{by_chained}

abbrev FitAll : Functions → Tms → Type 0
FitAll F = OverAll (λ x. Unit {0}) (λ f k. arity F f ≡ Some k)

-- where f isn't called the two are the same
module _ (f : Name) where
  mutual
    alike_same : (t u : Tm) → mentions f t ≡ false → Alike f t u → t ≡ u
    alike_same (Var x) u m a = a
    alike_same (Quote v) u m a = a
    alike_same (Call g ts) u m a =
        let h = or_parts (bytes_eq f g) (mentions_in f ts) m in
        let r : (Call g (args_in u) ≡ u) × AlikeAll f ts (args_in u) = subst (λ b. cond b (Unit {0}) ((Call g (args_in u) ≡ u) × AlikeAll f ts (args_in u))) h.0 a in
        ap (Call g) (alike_all_same ts (args_in u) h.1 r.1) ∙ r.0

    alike_all_same : (ts us : Tms) → mentions_in f ts ≡ false → AlikeAll f ts us → ts ≡ us
    alike_all_same Done us m a = a
    alike_all_same (More t ts) us m a =
        let h = or_parts (mentions f t) (mentions_in f ts) m in
        let p = alike_same t (first us) h.0 a.1 in
        let q = alike_all_same ts (others us) h.1 a.2 in
        cc a.0

-- as many arguments
abbrev SameShape : Tms → Tms → Type 0
SameShape Done us = Done ≡ us
SameShape (More t ts) us = (More (first us) (others us) ≡ us) × SameShape ts (others us)

alike_shape : (f : Name) (ts us : Tms) → AlikeAll f ts us → SameShape ts us
alike_shape f Done us a = a
alike_shape f (More t ts) us a = (a.0, alike_shape f ts (others us) a.2)

-- a test at the end of the tests is a hypothesis more
with_test : (c : Tm) (hs tests : List Tm) → Each (Within (c ∷ (hs ++ tests))) (hs ++ (tests ++ c ∷ []))
with_test c hs tests =
    let K : List Tm = hs ++ tests in
    each_join (Within (c ∷ K)) hs (tests ++ c ∷ []) (each_more c K hs (each_left hs tests))
    (each_join (Within (c ∷ K)) tests (c ∷ []) (each_more c K tests (each_right hs tests)) (within_first c K, tt))

module _ (W : World) (us : List Tm) (hs : List Tm) where
  -- each argument's equation under its own tests
  abbrev Proven : Place → List Tm → Tms → Tms → List Proof → Type 0
  Proven p tests Done vs [] = Unit {0}
  Proven p tests Done vs (P ∷ ps) = ⊥
  Proven p tests (More t ts) vs [] = ⊥
  Proven p tests (More t ts) vs (P ∷ ps) = Proves W us (hs ++ tests_at p tests) (equation t (first vs)) P × Proven (next p) tests ts (others vs) ps

  -- the arguments are replaced one after the other
  by_each : (tests : List Tm) (g : Name) (all ready ts vs : Tms) (n : ℕ) (ps : List Proof) (R : Proof) → n ≡ suc (count ready) → SameShape ts vs → Proven Plain tests ts vs ps →
      Proves W us (hs ++ tests) (equation (Call g all) (Call g (append ready ts))) R →
      Proves W us (hs ++ tests) (equation (Call g all) (Call g (append ready vs))) (each_replaced n ps R)
  by_each tests g all ready Done vs n [] R e al h r = subst (λ x. Proves W us (hs ++ tests) (equation (Call g all) (Call g (append ready x))) R) al r
  by_each tests g all ready Done vs n (P ∷ ps) R e al h r = absurd h
  by_each tests g all ready (More t ts) vs n [] R e al h r = absurd h
  by_each tests g all ready (More t ts) vs n (P ∷ ps) R e al h r =
      let u : Tm = first vs in
      let Q : Proof = Replace P R (2 ∷ n ∷ []) in
      let step : Proves W us (hs ++ tests) (equation (Call g all) (Call g (append (snoc ready u) ts))) Q = by_argument W us (hs ++ tests) g all ready ts t u n P R e h.0 r in
      let rest : Proves W us (hs ++ tests) (equation (Call g all) (Call g (append (snoc ready u) (others vs)))) (each_replaced (suc n) ps Q) =
      by_each tests g all (snoc ready u) ts (others vs) (suc n) ps Q (ap suc (e ∙ sym (snoc-count ready u))) al.1 h.1 step in
      subst (λ x. Proves W us (hs ++ tests) (equation (Call g all) (Call g x)) (each_replaced (suc n) ps Q)) (snoc-append ready (others vs) u ∙ ap (append ready) al.0) rest

  by_each_argument : (tests : List Tm) (g : Name) (ts vs : Tms) (ps : List Proof) → Fit W (Call g ts) → SameShape ts vs → Proven Plain tests ts vs ps →
      Proves W us (hs ++ tests) (equation (Call g ts) (Call g vs)) (each_replaced 1 ps (Refl (Call g ts)))
  by_each_argument tests g ts vs ps f al h =
      subst (λ x. Proves W us (hs ++ tests) (equation (Call g ts) (Call g x)) (each_replaced 1 ps (Refl (Call g ts)))) (append_first vs)
      (by_each tests g ts Done ts vs 1 ps (Refl (Call g ts)) refl al h
      (subst (λ x. Proves W us (hs ++ tests) (equation (Call g ts) (Call g x)) (Refl (Call g ts))) (sym (append_first ts)) (by_refl W us (hs ++ tests) (Call g ts) f)))

  module _ (basics : HasBasics W.functions) where
    is_fit : (t : Tm) → Fits W.functions t → Fit W t
    is_fit t f = (fits_decides W.functions t).1 f

    conditional_fits : (c a b : Tm) → Fit W c → Fit W a → Fit W b → Fit W (conditional c a b)
    conditional_fits c a b f g h = rw is_if (rw f (rw g (rw h refl)))

    by_the_test : (K : List Tm) (c a b a' b' : Tm) (P Q : Proof) → Fit W c → Fit W a → Fit W b → Fit W a' → Fit W b' →
        Proves W us (c ∷ K) (equation a a') P → Proves W us (negation c ∷ K) (equation b b') Q →
        Proves W us K (equation (conditional c a b) (conditional c a' b')) (by_test c a b a' b' P Q)
    by_the_test K c a b a' b' P Q fc fa fb fa' fb' p q =
        let n : Tm = negation c in
        let Y : List Tm = c ∷ K in
        let N : List Tm = n ∷ K in
        let old : Tm = conditional c a b in
        let new : Tm = conditional c a' b' in
        let f : Fit W new = conditional_fits c a' b' fc fa' fb' in
        let yes : Proves W us Y c (Hyp c) = by_hyp W us Y c fc (within_first c K) in
        let denied : Proves W us N n (Hyp n) = by_hyp W us N n (fits_not W us basics c fc) (within_first n K) in
        by_case W us K c (equation old new) _ _ fc
        (by_chained W us Y old a new (IfTrue (Hyp c) a b) _ (by_if_true W us Y c a b (Hyp c) fa fb yes)
        (by_chained W us Y a a' new P (turned (IfTrue (Hyp c) a' b') new) p
        (by_turned W us basics Y new a' (IfTrue (Hyp c) a' b') f (by_if_true W us Y c a' b' (Hyp c) fa' fb' yes))))
        (by_chained W us N old b new (IfFalse (Hyp n) a b) _ (by_if_false W us N c a b (Hyp n) fa fb denied)
        (by_chained W us N b b' new Q (turned (IfFalse (Hyp n) a' b') new) q
        (by_turned W us basics N new b' (IfFalse (Hyp n) a' b') f (by_if_false W us N c a' b' (Hyp n) fa' fb' denied))))

    -- an `if` has three arguments
    by_the_branches : (f : Name) (tests : List Tm) (c : Tm) (ts vs : Tms) (ps : List Proof) → mentions f c ≡ false → FitAll W.functions (More c ts) → FitAll W.functions vs → count (More c ts) ≡ 3 →
        AlikeAll f (More c ts) vs → Proven (Test c) tests (More c ts) vs ps →
        Proves W us (hs ++ tests) (equation (Call (codes "IF") (More c ts)) (Call (codes "IF") vs)) (by_branches c (More c ts) vs ps)
    by_the_branches f tests c Done vs ps m ft fu n al h = absurd (omega (arith, n))
    by_the_branches f tests c (More a Done) vs ps m ft fu n al h = absurd (omega (arith, n))
    by_the_branches f tests c (More a (More b (More d ts))) vs ps m ft fu n al h = absurd (omega (arith, n))
    by_the_branches f tests c (More a (More b Done)) vs [] m ft fu n al h = absurd h
    by_the_branches f tests c (More a (More b Done)) vs (P ∷ []) m ft fu n al h = absurd h.1
    by_the_branches f tests c (More a (More b Done)) vs (P ∷ Q ∷ []) m ft fu n al h = absurd h.1.1
    by_the_branches f tests c (More a (More b Done)) vs (P ∷ Q ∷ R ∷ ps) m ft fu n al h =
        let K : List Tm = hs ++ tests in
        let a' : Tm = first (others vs) in
        let b' : Tm = first (others (others vs)) in
        let same : c ≡ first vs = alike_same f c (first vs) m al.1 in
        let shape : vs ≡ More (first vs) (More a' (More b' Done)) = shape_is vs al.0 al.2.0 al.2.2.0 al.2.2.2 in
        let fu' : FitAll W.functions (More (first vs) (More a' (More b' Done))) = subst (FitAll W.functions) shape fu in
        let whole : conditional c a' b' ≡ Call (codes "IF") vs = ap (λ x. conditional x a' b') same ∙ ap (Call (codes "IF")) (sym shape) in
        subst (λ x. Proves W us K (equation (conditional c a b) x) (by_test c a b a' b' Q R)) whole
        (by_the_test K c a b a' b' Q R (is_fit c ft.0) (is_fit a ft.1.0) (is_fit b ft.1.1.0) (is_fit a' fu'.1.0) (is_fit b' fu'.1.1.0)
        (wider W us (hs ++ (tests ++ c ∷ [])) (c ∷ K) (equation a a') Q (with_test c hs tests) h.1.0)
        (wider W us (hs ++ (tests ++ negation c ∷ [])) (negation c ∷ K) (equation b b') R (with_test (negation c) hs tests) h.1.1.0))
      where
        shape_is : (xs : Tms) → More (first xs) (others xs) ≡ xs → More (first (others xs)) (others (others xs)) ≡ others xs → More (first (others (others xs))) (others (others (others xs))) ≡ others (others xs) →
            Done ≡ others (others (others xs)) → xs ≡ More (first xs) (More (first (others xs)) (More (first (others (others xs))) Done))
        shape_is xs e0 e1 e2 e3 = cc

    by_args : (f g : Name) (ts vs : Tms) (tests : List Tm) (ps : List Proof) → Fits W.functions (Call g ts) → FitAll W.functions vs → AlikeAll f ts vs → Proven (first_place f g ts) tests ts vs ps →
        Proves W us (hs ++ tests) (equation (Call g ts) (Call g vs)) (of_args (first_place f g ts) (Call g ts) ts vs ps)
    by_args f g Done vs tests ps ft fu al h = by_each_argument tests g Done vs ps (is_fit (Call g Done) ft) al h
    by_args f g (More c ts) vs tests ps ft fu al h = by_place (bytes_eq (codes "IF") g && not (mentions f c)) refl h
      where
        three_of : (k : ℕ) → Some 3 ≡ Some k → k ≡ 3
        three_of k q = cc

        by_place : (b : Bool) → (bytes_eq (codes "IF") g && not (mentions f c)) ≡ b → Proven (cond b (Test c) Plain) tests (More c ts) vs ps →
            Proves W us (hs ++ tests) (equation (Call g (More c ts)) (Call g vs)) (of_args (cond b (Test c) Plain) (Call g (More c ts)) (More c ts) vs ps)
        by_place true e k =
            let r = and_parts (bytes_eq (codes "IF") g) (not (mentions f c)) e in
            let here : codes "IF" ≡ g = same_name (codes "IF") g r.0 in
            let three : count (More c ts) ≡ 3 = three_of (count (More c ts)) (sym (arity_primitive W.functions (codes "IF") _ is_if) ∙ ap (arity W.functions) here ∙ ft.0) in
            subst (λ z. Proves W us (hs ++ tests) (equation (Call z (More c ts)) (Call z vs)) (by_branches c (More c ts) vs ps)) here
            (by_the_branches f tests c ts vs ps (not-true (mentions f c) r.1) ft.1 fu three al k)
        by_place false e k = by_each_argument tests g (More c ts) vs ps (is_fit (Call g (More c ts)) ft) (alike_shape f (More c ts) vs al) k

    module _ (f : Name) (found : Finder) where
      abbrev AllFound : List Difference → Type 0
      AllFound ds = Each (IsFound W us hs found) ds

      mutual
        by_congruence : (t u : Tm) (tests : List Tm) → Fits W.functions t → Fits W.functions u → Alike f t u → AllFound (differences f tests t u) → Proves W us (hs ++ tests) (equation t u) (congruence f found tests t u)
        by_congruence (Var x) u tests ft fu al ds = subst (λ y. Proves W us (hs ++ tests) (equation (Var x) y) (Refl (Var x))) al (by_refl W us (hs ++ tests) (Var x) refl)
        by_congruence (Quote v) u tests ft fu al ds = subst (λ y. Proves W us (hs ++ tests) (equation (Quote v) y) (Refl (Quote v))) al (by_refl W us (hs ++ tests) (Quote v) refl)
        by_congruence (Call g ts) u tests ft fu al ds = at_call (bytes_eq f g) al ds (λ fu' al' ds'. by_congruences ts (args_in u) (first_place f g ts) tests ft.1 fu' al' ds')
          where
            p : Place
            p = first_place f g ts

            a_call : (b : Bool) → same_tm (Call g ts) u ≡ b → AllFound (cond b [] (record { tests = tests; old = Call g ts; new = u } ∷ [])) →
                Proves W us (hs ++ tests) (equation (Call g ts) u) (cond b (Refl (Call g ts)) (found (record { tests = tests; old = Call g ts; new = u })))
            a_call true e k = subst (λ y. Proves W us (hs ++ tests) (equation (Call g ts) y) (Refl (Call g ts))) (same_term (Call g ts) u e) (by_refl W us (hs ++ tests) (Call g ts) (is_fit (Call g ts) ft))
            a_call false e k = k.0

            at_call : (b : Bool) → cond b (Unit {0}) ((Call g (args_in u) ≡ u) × AlikeAll f ts (args_in u)) → AllFound (cond b (differing tests (Call g ts) u) (differences_in f p tests ts (args_in u))) →
                (FitAll W.functions (args_in u) → AlikeAll f ts (args_in u) → AllFound (differences_in f p tests ts (args_in u)) → Proven p tests ts (args_in u) (congruences f found p tests ts (args_in u))) →
                Proves W us (hs ++ tests) (equation (Call g ts) u) (cond b (of_call found tests (Call g ts) u) (of_args p (Call g ts) ts (args_in u) (congruences f found p tests ts (args_in u))))
            at_call true a k rest = a_call (same_tm (Call g ts) u) refl k
            at_call false a k rest =
                let fu' : Fits W.functions (Call g (args_in u)) = subst (Fits W.functions) (sym a.0) fu in
                subst (λ y. Proves W us (hs ++ tests) (equation (Call g ts) y) (of_args p (Call g ts) ts (args_in u) (congruences f found p tests ts (args_in u)))) a.0
                (by_args f g ts (args_in u) tests (congruences f found p tests ts (args_in u)) ft fu'.1 a.1 (rest fu'.1 a.1 k))

        by_congruences : (ts vs : Tms) (p : Place) (tests : List Tm) → FitAll W.functions ts → FitAll W.functions vs → AlikeAll f ts vs → AllFound (differences_in f p tests ts vs) → Proven p tests ts vs (congruences f found p tests ts vs)
        by_congruences Done vs p tests ft fu al ds = tt
        by_congruences (More t ts) vs p tests ft fu al ds =
            let fu' : FitAll W.functions (More (first vs) (others vs)) = subst (FitAll W.functions) (sym al.0) fu in
            let d = each_parts (IsFound W us hs found) (differences f (tests_at p tests) t (first vs)) (differences_in f (next p) tests ts (others vs)) ds in
            (by_congruence t (first vs) (tests_at p tests) ft.0 fu'.0 al.1 d.0, by_congruences ts (others vs) (next p) tests ft.1 fu'.1 al.2 d.1)

none_after : (hs : List Tm) → Each (Within hs) (hs ++ [])
none_after hs = each_join (Within hs) hs [] (each_self hs) tt

pub body_congruence_proves : BodyCongruenceProves
body_congruence_proves W sound us hs f found t u ft fu al ds =
    wider W us (hs ++ []) hs (equation t u) (congruence f found [] t u) (none_after hs)
    (by_congruence W us hs (has_basics W sound) f found t u [] ft fu al ds)
