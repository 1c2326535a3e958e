-- The cases of an induction in lists, and the forms of terms that induction looks for.
use Rattle.std.proofs.Common.{◌≡◌, ◌≢◌, ◌+◌, ◌<◌, ◌≤◌, ◌&&◌, if◌then◌else◌, ℕ, zero, suc, Bool, true, false, List, [], ◌∷◌, ◌++◌, length, get_or, drop, take, map, Option, Some, None, refl, sym, ap, ◌∙◌, subst, arith}
use native.Mathlib.Numerals.{unary_clauses}
use Rattle.std.proofs.lemmas.List.{drop_all, take_all, take_more}
use Rattle.lisp_data.specs.Values.{Name}
use Rattle.terms.specs.Evaluation.{then_with}
use Rattle.terms.specs.Measures.{call1, call2}
use Rattle.terms.specs.Substitution.{Pairs, by_pairs}
use Rattle.terms.specs.Terms.{Tm, Call, Done, More, tms, same_tm, same_tms, substitute, substitute_all}
use Rattle.terms.specs.Worlds.{World, Functions}
use Rattle.terms.proofs.Args.{args}
use Rattle.terms.proofs.Names.{name_self}
use Rattle.terms.proofs.Same.{same_term}
use Rattle.proof_objects.specs.declared.step.InductionCase.{InductionCase}
use Rattle.proof_objects.specs.ProofTrees.{trees}
use Rattle.kernel.specs.Sequents.{args_of, one_of, two_of, sides_of}
use Rattle.kernel.specs.Induction.{falls_in, all_fall}
use Rattle.kernel.specs.InductCases.{case_of, cases_of, falls_of}
use Rattle.kernel.specs.Conclusion.{Conclusion, AllIn, proofs_of, sequents_of}
use Rattle.kernel.specs.Concludes.{concludes, all_concluded}
use Rattle.kernel.specs.declared.induction.InductCase.{InductCase}
use Rattle.kernel.proofs.Inversions.{then_some, one_of_is, args_of_is, sides_of_is}
use Rattle.kernel.proofs.Premises.{Concluded, concluded-start, concluded-next, concluded-end}

and_false : (a b : Bool) → b ≡ false → (a && b) ≡ false
and_false true b e = e
and_false false b e = refl

and_true : (a : Bool) → (a && true) ≡ a
and_true true = refl
and_true false = refl

-- a sequent for each case is needed
pub all_fall-lengths : (W : Functions) (m : Tm) (cs : List InductionCase) (qs : List Conclusion) → length cs ≢ length qs → all_fall W m cs (sequents_of qs) ≡ false
all_fall-lengths W m [] [] h = absurd (h refl)
all_fall-lengths W m [] (q ∷ qs) h = refl
all_fall-lengths W m (c ∷ cs) [] h = refl
all_fall-lengths W m (c ∷ cs) (q ∷ qs) h = and_false (falls_in W m c q.sequent) _ (all_fall-lengths W m cs qs (λ e. h (omega arith)))

-- the cases from the place i on: the one there, and the rest
pub cases-next : (cs : List InductCase) (i : ℕ) (d : InductCase) → i < length cs → drop i cs ≡ get_or cs i d ∷ drop (i + 1) cs
cases-next [] i d h = absurd (omega arith)
cases-next (c ∷ cs) zero d h = refl
cases-next (c ∷ cs) (suc i) d h = simp unary_clauses (simp unary_clauses at (cases-next cs i d (omega arith)))

pub fall-next : (W : Functions) (m : Tm) (cs : List InductCase) (i : ℕ) (c : InductCase) → i < length cs → c ≡ get_or cs i c → (b : Bool) → b ≡ falls_in W m (case_of c) c.falls.sequent → all_fall W m (cases_of (drop i cs)) (sequents_of (falls_of (drop i cs))) ≡ (b && all_fall W m (cases_of (drop (i + 1) cs)) (sequents_of (falls_of (drop (i + 1) cs))))
fall-next W m cs i c h e b f =
    ap (λ xs. all_fall W m (cases_of xs) (sequents_of (falls_of xs))) (cases-next cs i c h)
    ∙ ap (λ x. x && all_fall W m (cases_of (drop (i + 1) cs)) (sequents_of (falls_of (drop (i + 1) cs)))) (sym (f ∙ ap (λ c'. falls_in W m (case_of c') c'.falls.sequent) e))

-- the cases up to the place i, and the one there
pub cases-snoc : (xs : List InductCase) (c : InductCase) → cases_of (xs ++ c ∷ []) ≡ (cases_of xs ++ case_of c ∷ [])
cases-snoc [] c = refl
cases-snoc (x ∷ xs) c = ap (λ cs. case_of x ∷ cs) (cases-snoc xs c)

pub falls-snoc : (xs : List InductCase) (c : InductCase) → falls_of (xs ++ c ∷ []) ≡ (falls_of xs ++ c.falls ∷ [])
falls-snoc [] c = refl
falls-snoc (x ∷ xs) c = ap (λ cs. x.falls ∷ cs) (falls-snoc xs c)

proofs-snoc : (xs : List InductCase) (c : InductCase) → proofs_of (falls_of (xs ++ c ∷ [])) ≡ (proofs_of (falls_of xs) ++ c.falls.proof ∷ [])
proofs-snoc [] c = refl
proofs-snoc (x ∷ xs) c = ap (λ ps. x.falls.proof ∷ ps) (proofs-snoc xs c)

pub cases-taken : (cs : List InductCase) (i : ℕ) (d : InductCase) → i < length cs → cases_of (take (i + 1) cs) ≡ (cases_of (take i cs) ++ case_of (get_or cs i d) ∷ [])
cases-taken cs i d h = ap cases_of (take_more cs i d h) ∙ cases-snoc (take i cs) (get_or cs i d)

pub proofs-taken : (cs : List InductCase) (i : ℕ) (d : InductCase) → i < length cs → proofs_of (falls_of (take (i + 1) cs)) ≡ (proofs_of (falls_of (take i cs)) ++ (get_or cs i d).falls.proof ∷ [])
proofs-taken cs i d h = ap (λ xs. proofs_of (falls_of xs)) (take_more cs i d h) ∙ proofs-snoc (take i cs) (get_or cs i d)

pub ruleset cases = (all_fall-lengths, cases-next, cases-snoc, falls-snoc, cases-taken, proofs-taken, take_more, take_all, drop_all)

-- what is proved in the cases
get-falls : (cs : List InductCase) (i : ℕ) (d : InductCase) → i < length cs → get_or (falls_of cs) i d.falls ≡ (get_or cs i d).falls
get-falls [] i d h = absurd (omega arith)
get-falls (c ∷ cs) zero d h = refl
get-falls (c ∷ cs) (suc i) d h = get-falls cs i d (omega arith)

falls-length : (cs : List InductCase) → length (falls_of cs) ≡ length cs
falls-length [] = refl
falls-length (c ∷ cs) = ap suc (falls-length cs)

pub falls-world : (W : World) (cs : List InductCase) (i : ℕ) (d : InductCase) → AllIn W (falls_of cs) → i < length cs → (get_or cs i d).falls.world ≡ W
falls-world W [] i d h l = absurd (omega arith)
falls-world W (c ∷ cs) zero d h l = h.0
falls-world W (c ∷ cs) (suc i) d h l = falls-world W cs i d h.1 (omega arith)

pub falls-next : (W : World) (cs : List InductCase) (i : ℕ) (d : InductCase) → i < length cs → Concluded W (falls_of cs) i → (get_or cs i d).falls.world ≡ W → concludes (get_or cs i d).falls.world (get_or cs i d).falls.proof ≡ Some (get_or cs i d).falls.sequent → Concluded W (falls_of cs) (i + 1)
falls-next W cs i d h e w c =
    let same = sym (get-falls cs i d h) in
    concluded-next W (falls_of cs) i d.falls (subst (λ n. i < n) (sym (falls-length cs)) h) e
    (subst (λ q. q.world ≡ W) same w) (subst (λ q. concludes q.world q.proof ≡ Some q.sequent) same c)

pub falls-end : (W : World) (cs : List InductCase) (i : ℕ) → length cs ≤ i → Concluded W (falls_of cs) i → all_concluded W (trees (proofs_of (falls_of cs))) ≡ Some (sequents_of (falls_of cs))
falls-end W cs i h e = concluded-end W (falls_of cs) i (subst (λ n. n ≤ i) (sym (falls-length cs)) h) e

pub ruleset concluded = (concluded-start, falls-world, falls-next, falls-end)

-- a call of f on one argument
of_one : (f : Name) (t a : Tm) → same_tm (call1 f a) t ≡ true → then_with (args_of f t) one_of ≡ Some a
of_one f t a e = subst (λ u. then_with (args_of f u) one_of ≡ Some a) (same_term (call1 f a) t e) (ap (λ b. then_with (if b then Some (More a Done) else None) one_of) (name_self f))

pub no_one : (f : Name) (t a : Tm) → then_with (args_of f t) one_of ≡ None → same_tm (call1 f a) t ≡ false
no_one f t a e = by_test (same_tm (call1 f a) t) refl
  where
    by_test : (b : Bool) → same_tm (call1 f a) t ≡ b → same_tm (call1 f a) t ≡ false
    by_test true s = let o = of_one f t a s in absurd (cc)
    by_test false s = s

pub one_is : (f : Name) (t a x : Tm) → then_with (args_of f t) one_of ≡ Some x → same_tm (call1 f a) t ≡ same_tm a x
one_is f t a x e =
    let ts = then_some (args_of f t) one_of x e in
    let is = args_of_is f t ts.0 ts.1 ∙ ap (Call f) (one_of_is ts.0 x ts.2) in
    ap (same_tm (call1 f a)) is ∙ ap (λ b. b && (same_tm a x && true)) (name_self f) ∙ and_true (same_tm a x)

-- a call of f on two arguments
of_two : (f : Name) (t a b : Tm) → same_tm (call2 f a b) t ≡ true → sides_of f t ≡ Some (a, b)
of_two f t a b e = subst (λ u. sides_of f u ≡ Some (a, b)) (same_term (call2 f a b) t e) (ap (λ c. then_with (if c then Some (More a (More b Done)) else None) two_of) (name_self f))

pub no_sides : (f : Name) (t a b : Tm) → sides_of f t ≡ None → same_tm (call2 f a b) t ≡ false
no_sides f t a b e = by_test (same_tm (call2 f a b) t) refl
  where
    by_test : (c : Bool) → same_tm (call2 f a b) t ≡ c → same_tm (call2 f a b) t ≡ false
    by_test true s = let o = of_two f t a b s in absurd (cc)
    by_test false s = s

pub sides_are : (f : Name) (t a b x y : Tm) → sides_of f t ≡ Some (x, y) → same_tm (call2 f a b) t ≡ (same_tm a x && same_tm b y)
sides_are f t a b x y e =
    ap (same_tm (call2 f a b)) (sides_of_is f t (x, y) e)
    ∙ ap (λ c. c && (same_tm a x && (same_tm b y && true))) (name_self f)
    ∙ ap (λ c. same_tm a x && c) (and_true (same_tm b y))

pub ruleset forms = (no_one, one_is, no_sides, sides_are)

-- as many arguments are needed
pub instances-lengths : (s : Pairs) (ps ts : List Tm) → length ts ≢ length ps → same_tms (substitute_all (by_pairs s) (tms ps)) (tms ts) ≡ false
instances-lengths s [] [] h = absurd (h refl)
instances-lengths s [] (t ∷ ts) h = refl
instances-lengths s (p ∷ ps) [] h = refl
instances-lengths s (p ∷ ps) (t ∷ ts) h = and_false (same_tm (substitute (by_pairs s) p) t) _ (instances-lengths s ps ts (λ e. h (omega arith)))

pub ruleset instances = (args, instances-lengths, drop_all)
