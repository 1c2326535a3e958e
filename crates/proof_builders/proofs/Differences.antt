-- Sequents, proofs and arguments, item by item.
use Rattle.std.proofs.Common.{◌≡◌, ℕ, zero, suc, ◌+◌, ◌<◌, ◌≤◌, Bool, true, false, cond, List, [], ◌∷◌, ◌++◌, bytes_eq, length, get_or, take, drop, append_assoc, append-nil, Some, refl, ap, sym, ◌∙◌, subst, arith}
use Rattle.std.proofs.lemmas.List.{drop_all, drop_more, take_all, take_more}
use Rattle.lisp_data.specs.Values.{Name}
use Rattle.terms.specs.Measures.{Place, first_place, next, tests_at}
use Rattle.terms.specs.BuiltIn.{no}
use Rattle.terms.specs.Terms.{Tm, Call, Tms, Done, More, tms}
use Rattle.terms.specs.Worlds.{World, Each}
use Rattle.terms.proofs.Args.{depth-get_or, tms-drop}
use Rattle.terms.proofs.Lists.{each_join}
use Rattle.kernel.specs.Concludes.{concludes}
use Rattle.kernel.specs.Conclusion.{Conclusion}
use Rattle.kernel.proofs.Premises.{AllIn-at}
use Rattle.reduction_proofs.specs.Trees.{Proof, Refl, Replace}
use Rattle.proof_builders.specs.Congruence.{args_in, Alike, AlikeAll, Finder, of_call, each_replaced, by_test, by_branches, of_args, congruence, congruences, IsConcluded}

-- so many of the sequents are concluded by their proofs
unfoldable pub Concluded : World → List Conclusion → ℕ → Type 0
Concluded W cs i = Each (IsConcluded W) (take i cs)

pub concluded-start : (W : World) (cs : List Conclusion) → Concluded W cs 0
unfolding Concluded
concluded-start W cs = tt

pub concluded-next : (W : World) (cs : List Conclusion) (i : ℕ) (d : Conclusion) → i < length cs → Concluded W cs i → (get_or cs i d).world ≡ W →
    concludes (get_or cs i d).world (get_or cs i d).proof ≡ Some (get_or cs i d).sequent → Concluded W cs (i + 1)
unfolding Concluded
concluded-next W cs i d h e w c =
    subst (Each (IsConcluded W)) (sym (take_more cs i d h))
    (each_join (IsConcluded W) (take i cs) (get_or cs i d ∷ []) e (subst (λ V. concludes V (get_or cs i d).proof ≡ Some (get_or cs i d).sequent) w c, tt))

pub concluded-end : (W : World) (cs : List Conclusion) (i : ℕ) → length cs ≤ i → Concluded W cs i → Each (IsConcluded W) cs
unfolding Concluded
concluded-end W cs i h e = subst (Each (IsConcluded W)) (take_all i cs h) e

pub ruleset concluded = (AllIn-at, concluded-start, concluded-next, concluded-end)

pub ruleset lists = (drop_more, drop_all, append_assoc, append-nil)

pub replaced-more : (n : ℕ) (ps : List Proof) (i : ℕ) (d R : Proof) → i < length ps →
    each_replaced n (drop i ps) R ≡ each_replaced (n + 1) (drop (i + 1) ps) (Replace (get_or ps i d) R (2 ∷ n ∷ []))
replaced-more n ps i d R h =
    let next : suc n ≡ n + 1 = omega arith in
    ap (λ qs. each_replaced n qs R) (drop_more ps i d h)
    ∙ ap (λ m. each_replaced m (drop (i + 1) ps) (Replace (get_or ps i d) R (2 ∷ n ∷ []))) next

pub replaced-end : (n : ℕ) (ps : List Proof) (i : ℕ) (R : Proof) → length ps ≤ i → each_replaced n (drop i ps) R ≡ R
replaced-end n ps i R h = ap (λ qs. each_replaced n qs R) (drop_all i ps h)

pub ruleset replacements = (replaced-more, replaced-end)

pub branches-few : (c : Tm) (ts us : Tms) (ps : List Proof) → length ps < 3 → by_branches c ts us ps ≡ Refl c
branches-few c ts us [] h = refl
branches-few c ts us (P ∷ []) h = refl
branches-few c ts us (P ∷ Q ∷ []) h = refl
branches-few c ts us (P ∷ Q ∷ R ∷ ps) h = absurd (omega arith)

branches-three : (c : Tm) (ts us : List Tm) (ps : List Proof) (a b a' b' : Tm) (P Q : Proof) → length ts ≡ length ps → length us ≡ length ps → 3 ≤ length ps →
    by_branches c (tms ts) (tms us) ps ≡ by_test c (get_or ts 1 a) (get_or ts 2 b) (get_or us 1 a') (get_or us 2 b') (get_or ps 1 P) (get_or ps 2 Q)
branches-three c ts us [] a b a' b' P Q e f h = absurd (omega arith)
branches-three c ts us (p ∷ []) a b a' b' P Q e f h = absurd (omega arith)
branches-three c ts us (p ∷ q ∷ []) a b a' b' P Q e f h = absurd (omega arith)
branches-three c [] us (p ∷ q ∷ r ∷ ps) a b a' b' P Q e f h = absurd (omega arith)
branches-three c (t ∷ []) us (p ∷ q ∷ r ∷ ps) a b a' b' P Q e f h = absurd (omega arith)
branches-three c (t ∷ t' ∷ []) us (p ∷ q ∷ r ∷ ps) a b a' b' P Q e f h = absurd (omega arith)
branches-three c (t ∷ t' ∷ s ∷ ts) [] (p ∷ q ∷ r ∷ ps) a b a' b' P Q e f h = absurd (omega arith)
branches-three c (t ∷ t' ∷ s ∷ ts) (u ∷ []) (p ∷ q ∷ r ∷ ps) a b a' b' P Q e f h = absurd (omega arith)
branches-three c (t ∷ t' ∷ s ∷ ts) (u ∷ u' ∷ []) (p ∷ q ∷ r ∷ ps) a b a' b' P Q e f h = absurd (omega arith)
branches-three c (t ∷ t' ∷ s ∷ ts) (u ∷ u' ∷ v ∷ us) (p ∷ q ∷ r ∷ ps) a b a' b' P Q e f h = refl

pub branches-all : (c : Tm) (ts us : List Tm) (ps : List Proof) (a b a' b' : Tm) (P Q : Proof) → length ts ≡ length ps → length us ≡ length ps → 3 ≤ length ps →
    a ≡ get_or ts 1 a → b ≡ get_or ts 2 b → a' ≡ get_or us 1 a' → b' ≡ get_or us 2 b' → P ≡ get_or ps 1 P → Q ≡ get_or ps 2 Q → by_branches c (tms ts) (tms us) ps ≡ by_test c a b a' b' P Q
branches-all c ts us ps a b a' b' P Q e f h p q p' q' r s =
    let all = branches-three c ts us ps a b a' b' P Q e f h in
    cc

pub ruleset branches = (branches-few, branches-all)

-- as many arguments
pub alike-length : (f : Name) (ts us : List Tm) → AlikeAll f (tms ts) (tms us) → length us ≡ length ts
alike-length f [] [] a = refl
alike-length f [] (u ∷ us) a = let e : Done ≡ More u (tms us) = a in absurd (cc)
alike-length f (t ∷ ts) [] a = let e : More no Done ≡ Done = a.0 in absurd (cc)
alike-length f (t ∷ ts) (u ∷ us) a = let e = alike-length f ts us a.2 in omega arith

pub alike-at : (f : Name) (ts us : List Tm) (i : ℕ) (d e : Tm) → AlikeAll f (tms ts) (tms us) → i < length ts → Alike f (get_or ts i d) (get_or us i e)
alike-at f [] us i d e a h = absurd (omega arith)
alike-at f (t ∷ ts) [] i d e a h = let q : More no Done ≡ Done = a.0 in absurd (cc)
alike-at f (t ∷ ts) (u ∷ us) zero d e a h = a.1
alike-at f (t ∷ ts) (u ∷ us) (suc i) d e a h = alike-at f ts us i d e a.2 (omega arith)

pub congruences-more : (f : Name) (F : Finder) (p : Place) (tests ts us : List Tm) (i : ℕ) (d e : Tm) → i < length ts → i < length us →
    congruences f F p tests (tms (drop i ts)) (tms (drop i us))
    ≡ congruence f F (tests_at p tests) (get_or ts i d) (get_or us i e) ∷ congruences f F (next p) tests (tms (drop (i + 1) ts)) (tms (drop (i + 1) us))
congruences-more f F p tests ts us i d e h g =
    ap (λ xs. congruences f F p tests xs (tms (drop i us))) (tms-drop ts i d h)
    ∙ ap (congruences f F p tests (More (get_or ts i d) (tms (drop (i + 1) ts)))) (tms-drop us i e g)

pub congruences-end : (f : Name) (F : Finder) (p : Place) (tests ts : List Tm) (us : Tms) (i : ℕ) → length ts ≤ i → congruences f F p tests (tms (drop i ts)) us ≡ []
congruences-end f F p tests ts us i h = ap (λ xs. congruences f F p tests (tms xs) us) (drop_all i ts h)

longer : (ps : List Proof) (P : Proof) → length (ps ++ P ∷ []) ≡ length ps + 1
longer [] P = refl
longer (Q ∷ ps) P = let e = longer ps P in omega arith

pub one-more : (ps more : List Proof) (P : Proof) (n : ℕ) → more ≡ ps ++ P ∷ [] → length ps ≡ n → length more ≡ n + 1
one-more ps more P n pushed so_far = ap length pushed ∙ longer ps P ∙ ap (λ k. k + 1) so_far

-- one more argument is proved
pub congruences-next : (f : Name) (F : Finder) (p q : Place) (tests inner ts us : List Tm) (i : ℕ) (t u : Tm) (ps more all : List Proof) (P : Proof) →
    i < length ts → i < length us → t ≡ get_or ts i t → u ≡ get_or us i u → inner ≡ tests_at p tests → P ≡ congruence f F inner t u →
    more ≡ ps ++ P ∷ [] → q ≡ next p → ps ++ congruences f F p tests (tms (drop i ts)) (tms (drop i us)) ≡ all →
    more ++ congruences f F q tests (tms (drop (i + 1) ts)) (tms (drop (i + 1) us)) ≡ all
congruences-next f F p q tests inner ts us i t u ps more all P h g here there tested proved pushed moved so_far =
    let rest : List Proof = congruences f F (next p) tests (tms (drop (i + 1) ts)) (tms (drop (i + 1) us)) in
    let is : P ≡ congruence f F (tests_at p tests) (get_or ts i t) (get_or us i u) = proved ∙ (λ j. congruence f F (tested j) (here j) (there j)) in
    (λ j. pushed j ++ congruences f F (moved j) tests (tms (drop (i + 1) ts)) (tms (drop (i + 1) us)))
    ∙ append_assoc ps (P ∷ []) rest
    ∙ ap (λ Q. ps ++ Q ∷ rest) is
    ∙ ap (λ qs. ps ++ qs) (sym (congruences-more f F p tests ts us i t u h g))
    ∙ so_far

-- the same of two terms that stand there
pub alike-here : (f : Name) (ts us : List Tm) (i : ℕ) (a b : Tm) → AlikeAll f (tms ts) (tms us) → i < length ts → a ≡ get_or ts i a → b ≡ get_or us i b → Alike f a b
alike-here f ts us i a b al h p q = subst (λ x. Alike f x b) (sym p) (subst (λ y. Alike f (get_or ts i a) y) (sym q) (alike-at f ts us i a b al h))

-- the arguments of a call of another function
pub alike-args : (f g : Name) (ts us : List Tm) (t u : Tm) → Call g (tms ts) ≡ t → tms us ≡ args_in u → bytes_eq f g ≡ false → Alike f t u → AlikeAll f (tms ts) (tms us)
alike-args f g ts us t u p q e a =
    subst (AlikeAll f (tms ts)) (sym q)
    (subst (λ b. cond b (Unit {0}) ((Call g (args_in u) ≡ u) × AlikeAll f (tms ts) (args_in u))) e (subst (λ x. Alike f x u) (sym p) a)).1

module _ (f g : Name) (F : Finder) (tests ts : List Tm) (t u : Tm) (is : Call g (tms ts) ≡ t) where
  pub congruence-own : bytes_eq f g ≡ true → congruence f F tests t u ≡ of_call F tests t u
  congruence-own e =
      subst (λ x. congruence f F tests x u ≡ of_call F tests x u) is
      (ap (λ b. cond b (of_call F tests (Call g (tms ts)) u) (of_args (first_place f g (tms ts)) (Call g (tms ts)) (tms ts) (args_in u) (congruences f F (first_place f g (tms ts)) tests (tms ts) (args_in u)))) e)

  pub congruence-other : (us : Tms) → us ≡ args_in u → bytes_eq f g ≡ false →
      congruence f F tests t u ≡ of_args (first_place f g (tms ts)) t (tms ts) us (congruences f F (first_place f g (tms ts)) tests (tms ts) us)
  congruence-other us q e =
      let p : Place = first_place f g (tms ts) in
      subst (λ y. congruence f F tests t u ≡ of_args p t (tms ts) y (congruences f F p tests (tms ts) y)) (sym q)
      (subst (λ x. congruence f F tests x u ≡ of_args p x (tms ts) (args_in u) (congruences f F p tests (tms ts) (args_in u))) is
      (ap (λ b. cond b (of_call F tests (Call g (tms ts)) u) (of_args p (Call g (tms ts)) (tms ts) (args_in u) (congruences f F p tests (tms ts) (args_in u)))) e))

pub ruleset arguments = (depth-get_or, append_assoc, append-nil, alike-length, alike-here, alike-args, congruences-more, congruences-end, congruence-own, congruence-other)
