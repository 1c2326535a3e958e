-- The start by induction.
use Rattle.std.proofs.Common.{◌≡◌, ℕ, suc, ◌+◌, Bool, true, false, ◌||◌, List, [], ◌∷◌, ◌++◌, map, length, slice_get, codes, Some, None, refl, sym, ap, ◌∙◌, subst, arith}
use Rattle.std.specs.List.{list_all, list_any}
use Rattle.std.proofs.lemmas.Bool.{and_from, or_left, or_right}
use Rattle.lisp_data.specs.Values.{Name}
use Rattle.terms.specs.BuiltIn.{no, yes}
use Rattle.terms.specs.Definitions.{find}
use Rattle.terms.specs.Formed.{HasBasics}
use Rattle.terms.specs.Joins.{join}
use Rattle.terms.specs.Measures.{RecursiveCall, obligations, is_natural, falls, call1, call2}
use Rattle.terms.specs.Primitives.{primitive, primitives}
use Rattle.terms.specs.Substitution.{Pairs, by_pairs}
use Rattle.terms.specs.Terms.{Tm, Var, same_tm, tm_list, count, substitute, by_args}
use Rattle.terms.specs.Worlds.{World, Distinct, Each}
use Rattle.terms.specs.declared.definition.Definition.{Definition}
use Rattle.terms.specs.declared.sequent.Sequent.{Sequent}
use Rattle.terms.proofs.Lists.{each_join, each_of_map, join_to}
use Rattle.terms.proofs.Models.{is_if}
use Rattle.terms.proofs.Same.{same_term, term_self}
use Rattle.proof_objects.specs.ProofTrees.{trees}
use Rattle.proof_objects.specs.declared.step.InductionCase.{InductionCase}
use Rattle.kernel.specs.Concludes.{all_concluded}
use Rattle.kernel.specs.Fitting.{fit_all, pairs_fit}
use Rattle.kernel.specs.Induction.{assumption, all_assumed, all_fall, with_universals}
use Rattle.kernel.specs.Logic.{is_empty}
use Rattle.kernel.specs.Sequents.{conditional, negation, implication}
use Rattle.kernel.proofs.Joins.{map_to}
use Rattle.reduction.specs.Hyps.{has}
use Rattle.hints.specs.Start.{conjunction, conjunction_from, folded, bind, images, hypothesis, as_variables}
use Rattle.reduction_proofs.specs.Derived.{first_part, second_part}
use Rattle.reduction_proofs.specs.Proving.{Within, Proves}
use Rattle.reduction_proofs.specs.Start.{cut_parts, cut_conjunction, case_of, falls_by, unfolded, by_calls}
use Rattle.reduction_proofs.specs.Trees.{Proof, Hyp, Substitute, IfTrue, IfFalse, ImpliesOut, Owed, Induct}
use Rattle.reduction_proofs.proofs.Members.{Fit, within_first, within_more, each_self, each_more, each_left, each_right}
use Rattle.reduction_proofs.proofs.Deduction.{wider, by_hyp, by_cut, by_case, by_implies_out, by_if_true, by_if_false}
use Rattle.reduction_proofs.proofs.Shortcuts.{fits_not, by_forth, by_from_nil}
use Rattle.reduction_proofs.proofs.Bindings.{measure_same, put_fits, images_fit, list_fit, bind_fits, variables_fit}
use Rattle.reduction_proofs.proofs.Recursive.{IsRecursive}

implies_plain : primitive (codes "IMPLIES") ≡ None
unfolding primitive primitives
implies_plain = refl

none_within : (hs : List Tm) → Each (Within []) hs → is_empty hs ≡ true
none_within [] h = refl
none_within (k ∷ hs) h = absurd (cc)

-- hypotheses that are all this term
only_this : (t : Tm) (hs : List Tm) → Each (Within (t ∷ [])) hs → list_all (same_tm t) hs ≡ true
only_this t [] h = refl
only_this t (k ∷ hs) h = and_from (same_tm t k) (list_all (same_tm t) hs) (by_test (same_tm k t) refl h.0) (only_this t hs h.1)
  where
    by_test : (b : Bool) → same_tm k t ≡ b → (b || false) ≡ true → same_tm t k ≡ true
    by_test true q e = subst (λ z. same_tm t z ≡ true) (sym (same_term k t q)) (term_self t)
    by_test false q e = absurd (cc)

-- hypotheses among the induction hypotheses
assumed_one : (g : Tm) (cs : List InductionCase) (h : Tm) → Within (map (assumption g) cs) h → list_any (λ c. same_tm (assumption g c) h) cs ≡ true
assumed_one g [] h w = absurd (cc)
assumed_one g (c ∷ cs) h w = by_test (same_tm h (assumption g c)) refl w (assumed_one g cs h)
  where
    by_test : (b : Bool) → same_tm h (assumption g c) ≡ b → (b || has (map (assumption g) cs) h) ≡ true → (Within (map (assumption g) cs) h → list_any (λ d. same_tm (assumption g d) h) cs ≡ true) →
        (same_tm (assumption g c) h || list_any (λ d. same_tm (assumption g d) h) cs) ≡ true
    by_test true q e ih = or_left (same_tm (assumption g c) h) _ (subst (λ z. same_tm (assumption g c) z ≡ true) (sym (same_term h (assumption g c) q)) (term_self (assumption g c)))
    by_test false q e ih = or_right (same_tm (assumption g c) h) _ (ih e)

assumed_all : (g : Tm) (cs : List InductionCase) (hs : List Tm) → Each (Within (map (assumption g) cs)) hs → all_assumed g cs hs ≡ true
assumed_all g cs [] h = refl
assumed_all g cs (k ∷ hs) h = and_from (list_any (λ c. same_tm (assumption g c) k) cs) (all_assumed g cs hs) (assumed_one g cs k h.0) (assumed_all g cs hs h.1)

module _ (W : World) (us : List Tm) (basics : HasBasics W.functions) where
  pub fits_both : (p q : Tm) → Fit W p → Fit W q → Fit W (conditional p q no)
  fits_both p q f g = rw is_if (rw f (rw g refl))

  fits_implies : (a b : Tm) → Fit W a → Fit W b → Fit W (implication a b)
  fits_implies a b f g = rw implies_plain (rw basics.has_implies (rw f (rw g refl)))

  conj_fits : (a : Tm) (bs : List Tm) → Fit W a → Each (Fit W) bs → Fit W (conjunction_from a bs)
  conj_fits a [] f h = f
  conj_fits a (b ∷ bs) f h = fits_both a (conjunction_from b bs) f (conj_fits b bs h.0 h.1)

  conj_all_fit : (ts : List Tm) → Each (Fit W) ts → Fit W (conjunction ts)
  conj_all_fit [] f = refl
  conj_all_fit (a ∷ bs) f = conj_fits a bs f.0 f.1

  pub folded_fits : (hs : List Tm) (g : Tm) → Each (Fit W) hs → Fit W g → Fit W (folded hs g)
  folded_fits [] g f h = h
  folded_fits (k ∷ hs) g f h = fits_implies k (folded hs g) f.0 (folded_fits hs g f.1 h)

  -- ---- the parts of a conjunction
  module _ (hs : List Tm) (a b : Tm) (fa : Fit W a) (fb : Fit W b) (w : Within hs (conditional a b no)) where
    both_holds : (ks : List Tm) → Within ks (conditional a b no) → Proves W us ks (conditional a b no) (Hyp (conditional a b no))
    both_holds ks v = by_hyp W us ks (conditional a b no) (fits_both a b fa fb) v

    pub by_first : Proves W us hs a (first_part a b)
    by_first =
        let n : Tm = negation a in
        by_case W us hs a a (Hyp a) _ fa (by_hyp W us (a ∷ hs) a fa (within_first a hs))
        (by_from_nil W us basics (n ∷ hs) a _ fa
        (by_forth W us basics (n ∷ hs) (conditional a b no) no (IfFalse (Hyp n) b no) (Hyp (conditional a b no))
        (by_if_false W us (n ∷ hs) a b no (Hyp n) fb refl (by_hyp W us (n ∷ hs) n (fits_not W us basics a fa) (within_first n hs)))
        (both_holds (n ∷ hs) (within_more n hs (conditional a b no) w))))

    pub by_second : Proves W us (a ∷ hs) b (second_part a b)
    by_second = by_forth W us basics (a ∷ hs) (conditional a b no) b (IfTrue (Hyp a) b no) (Hyp (conditional a b no))
        (by_if_true W us (a ∷ hs) a b no (Hyp a) fb refl (by_hyp W us (a ∷ hs) a fa (within_first a hs)))
        (both_holds (a ∷ hs) (within_more a hs (conditional a b no) w))

  -- the hypotheses with the first part and the rest have the first part beside those with the rest
  moved : (a r : Tm) (bs hs : List Tm) → Each (Within (bs ++ (r ∷ a ∷ hs))) (a ∷ (bs ++ hs))
  moved a r bs hs =
      let q = each_right bs (r ∷ a ∷ hs) in
      (q.1.0, each_join (Within (bs ++ (r ∷ a ∷ hs))) bs hs (each_left bs (r ∷ a ∷ hs)) q.1.1)

  pub by_cut_parts : (hs : List Tm) (a : Tm) (bs : List Tm) (g : Tm) (P : Proof) → Fit W a → Each (Fit W) bs → Within hs (conjunction_from a bs) → Proves W us (a ∷ (bs ++ hs)) g P → Proves W us hs g (cut_parts a bs P)
  by_cut_parts hs a [] g P fa fbs w p = wider W us (a ∷ hs) hs g P (w, each_self hs) p
  by_cut_parts hs a (b ∷ bs) g P fa fbs w p =
      let rest : Tm = conjunction_from b bs in
      let fr : Fit W rest = conj_fits b bs fbs.0 fbs.1 in
      by_cut W us hs a g (first_part a rest) _ (by_first hs a rest fa fr w)
      (by_cut W us (a ∷ hs) rest g (second_part a rest) (cut_parts b bs P) (by_second hs a rest fa fr w)
      (by_cut_parts (rest ∷ a ∷ hs) b bs g P fbs.0 fbs.1 (within_first rest (a ∷ hs))
      (wider W us (a ∷ ((b ∷ bs) ++ hs)) ((b ∷ bs) ++ (rest ∷ a ∷ hs)) g P (moved a rest (b ∷ bs) hs) p)))

  by_cut_conjunction : (ts : List Tm) (g : Tm) (P : Proof) → Each (Fit W) ts → Proves W us ts g P → Proves W us (conjunction ts ∷ []) g (cut_conjunction ts P)
  by_cut_conjunction [] g P f p = wider W us [] (yes ∷ []) g P tt p
  by_cut_conjunction (a ∷ bs) g P f p =
      let q : Tm = conjunction_from a bs in
      by_cut_parts (q ∷ []) a bs g P f.0 f.1 (within_first q [])
      (wider W us (a ∷ bs) (a ∷ (bs ++ (q ∷ []))) g P (within_first a (bs ++ (q ∷ [])), each_more a (bs ++ (q ∷ [])) bs (each_left bs (q ∷ []))) p)

  -- ---- the rule
  record CasesFall (m : Tm) (cs : List InductionCase) (ps : List Proof) : Type 0 where
    falling : List Sequent
    concluded : all_concluded W (trees ps) ≡ Some falling
    fall : all_fall W.functions m cs falling ≡ true
    used_in : Each (λ s. Each (Within us) s.universals) falling

  one_falls : (m q : Tm) (s : Pairs) (Q : Proof) (cs : List InductionCase) (ps : List Proof) → Fit W q → pairs_fit W.functions s ≡ true →
      Proves W us (q ∷ []) (call2 (codes "<") (substitute (by_pairs s) m) m) Q → CasesFall m cs ps → CasesFall m (record { test = q; subst = s } ∷ cs) (Q ∷ ps)
  one_falls m q s Q cs ps f g p c = record {
    falling = record { universals = p.universals; hyps = p.hyps; goal = call2 (codes "<") (substitute (by_pairs s) m) m } ∷ c.falling;
    concluded = rw p.concluded (rw c.concluded refl);
    fall = rw f (rw g (rw (only_this q p.hyps p.hyps_in) (rw (term_self (substitute (by_pairs s) m)) (rw (term_self m) (rw c.fall refl)))));
    used_in = (p.universals_in, c.used_in);
  }

  each_universal : (vs : List Tm) (ss : List Sequent) → Each (Within us) vs → Each (λ s. Each (Within us) s.universals) ss → Each (Within us) (with_universals vs ss)
  each_universal vs [] h k = h
  each_universal vs (s ∷ ss) h k = each_universal (join vs s.universals) ss (join_to (Within us) vs s.universals h k.0) k.1

  by_induct : (m g : Tm) (P B : Proof) (cs : List InductionCase) (ps : List Proof) → Proves W us [] (call1 (codes "NATP") m) P → CasesFall m cs ps → Proves W us (map (assumption g) cs) g B → Proves W us [] g (Induct m cs P B ps)
  by_induct m g P B cs ps p c b = record {
    universals = with_universals (join p.universals b.universals) c.falling;
    hyps = [];
    concluded = rw p.concluded (rw b.concluded (rw c.concluded (rw (none_within p.hyps p.hyps_in) (rw (term_self m) (rw (assumed_all g cs b.hyps b.hyps_in) (rw c.fall refl))))));
    universals_in = each_universal (join p.universals b.universals) c.falling (join_to (Within us) p.universals b.universals p.universals_in b.universals_in) c.used_in;
    hyps_in = tt;
  }

  by_unfolded : (hs ks : List Tm) (g : Tm) (P : Proof) → Each (λ k. Fit W k × Within hs k) ks → Proves W us hs (folded ks g) P → Proves W us hs g (unfolded ks P)
  by_unfolded hs [] g P h p = p
  by_unfolded hs (k ∷ ks) g P h p = by_unfolded hs ks g (ImpliesOut P (Hyp k)) h.1 (by_implies_out W us hs k (folded ks g) P (Hyp k) p (by_hyp W us hs k h.0.0 h.0.1))

  -- an obligation under a substitution; its hypotheses are tests without repeats
  by_owed : (d : Definition) (k : ℕ) (T : List Tm) (g : Tm) (r : Pairs) → find W.functions.defs d.name ≡ Some d → slice_get (obligations d) k ≡ Some (record { universals = []; hyps = join [] T; goal = g }) → pairs_fit W.functions r ≡ true →
      Proves W us (images r T) (substitute (by_pairs r) g) (Substitute (Owed d.name k) r)
  by_owed d k T g r e i p =
      let L : List Tm = images r T in
      let S : Tm → Tm = substitute (by_pairs r) in
      record {
        universals = [];
        hyps = join [] (map S (join [] T));
        concluded = rw e (rw i (rw p refl));
        universals_in = tt;
        hyps_in = join_to (Within L) [] (map S (join [] T)) tt (map_to (Within L) S (join [] T) (join_to (λ t. Within L (S t)) [] T tt (each_of_map (Within L) S T (each_self L))));
      }

  module _ (d : Definition) (m : Tm) (all : List RecursiveCall) (is : IsRecursive W d m all) (xs : List Name) (distinct : Distinct xs) (many : length xs ≡ length d.formals) where
    abbrev CallFits : RecursiveCall → Type 0
    CallFits c = Each (Fit W) c.tests × (fit_all W.functions c.args ≡ true) × (count c.args ≡ length d.formals)

    r_fits : pairs_fit W.functions (as_variables d xs) ≡ true
    r_fits = bind_fits W d.formals (map Var xs) (variables_fit W xs)

    args_fit : (c : RecursiveCall) → fit_all W.functions c.args ≡ true → pairs_fit W.functions (bind [] xs (images (as_variables d xs) (tm_list c.args))) ≡ true
    args_fit c e = bind_fits W xs (images (as_variables d xs) (tm_list c.args)) (images_fit W (as_variables d xs) r_fits (tm_list c.args) (list_fit W c.args e))

    cases_fall : (cs : List RecursiveCall) (k : ℕ) → ((j : ℕ) → slice_get (map (falls d.formals m) cs) j ≡ slice_get (obligations d) (k + j)) → Each CallFits cs →
        CasesFall (substitute (by_pairs (as_variables d xs)) m) (map (case_of (as_variables d xs) xs) cs) (falls_by d.name (as_variables d xs) k cs)
    cases_fall [] k at h = record { falling = []; concluded = refl; fall = refl; used_in = tt }
    cases_fall (c ∷ cs) k at h =
        let r : Pairs = as_variables d xs in
        let R : Tm → Tm = substitute (by_pairs r) in
        let T : List Tm = images r c.tests in
        let fT : Each (Fit W) T = images_fit W r r_fits c.tests h.0.0 in
        let s : Pairs = bind [] xs (images r (tm_list c.args)) in
        let here : slice_get (obligations d) k ≡ Some (falls d.formals m c) = ap (slice_get (obligations d)) (omega arith) ∙ sym (at 0) in
        let P : Proof = Substitute (Owed d.name k) r in
        let p : Proves W us T (call2 (codes "<") (R (substitute (by_args d.formals c.args) m)) (R m)) P = by_owed d k c.tests (call2 (codes "<") (substitute (by_args d.formals c.args) m) m) r is.found here r_fits in
        let p' : Proves W us T (call2 (codes "<") (substitute (by_pairs s) (R m)) (R m)) P = subst (λ z. Proves W us T (call2 (codes "<") z (R m)) P) (measure_same d.formals xs c.args m distinct many h.0.2 is.measure) p in
        one_falls (R m) (conjunction T) s (cut_conjunction T P) (map (case_of r xs) cs) (falls_by d.name r (suc k) cs) (conj_all_fit T fT) (args_fit c h.0.1)
        (by_cut_conjunction T (call2 (codes "<") (substitute (by_pairs s) (R m)) (R m)) P fT p')
        (cases_fall cs (suc k) (λ j. at (suc j) ∙ ap (slice_get (obligations d)) (omega arith)) h.1)

    assumptions_are : (g : Tm) (cs : List RecursiveCall) → map (assumption g) (map (case_of (as_variables d xs) xs) cs) ≡ map (hypothesis (as_variables d xs) xs g) cs
    assumptions_are g [] = refl
    assumptions_are g (c ∷ cs) = ap (λ hs. hypothesis (as_variables d xs) xs g c ∷ hs) (assumptions_are g cs)

    pub hypotheses_fit : (g : Tm) (cs : List RecursiveCall) → Fit W g → Each CallFits cs → Each (Fit W) (map (hypothesis (as_variables d xs) xs g) cs)
    hypotheses_fit g [] f h = tt
    hypotheses_fit g (c ∷ cs) f h =
        let r : Pairs = as_variables d xs in (
          fits_implies (conjunction (images r c.tests)) (substitute (by_pairs (bind [] xs (images r (tm_list c.args)))) g)
              (conj_all_fit (images r c.tests) (images_fit W r r_fits c.tests h.0.0))
              (put_fits W (bind [] xs (images r (tm_list c.args))) (args_fit c h.0.1) g f),
          hypotheses_fit g cs f h.1,
        )

    -- the proof after the induction gives the one before it
    pub induction_proves : (hs : List Tm) (g : Tm) → Each (Fit W) hs → (P : Proof) →
        Proves W us (join [] (map (hypothesis (as_variables d xs) xs (folded hs g)) all)) (folded hs g) P →
        Proves W us hs g (unfolded hs (by_calls d.name m (as_variables d xs) xs all P))
    induction_proves hs g fit P p =
        let r : Pairs = as_variables d xs in
        let m' : Tm = substitute (by_pairs r) m in
        let G : Tm = folded hs g in
        let cs : List InductionCase = map (case_of r xs) all in
        let I : Proof = by_calls d.name m r xs all P in
        let L : List Tm = map (assumption G) cs in
        let sub : Each (Within L) (join [] (map (hypothesis r xs G) all)) = subst (λ ks. Each (Within L) (join [] ks)) (assumptions_are G all) (join_to (Within L) [] L tt (each_self L)) in
        let natural = by_owed d 0 [] (call1 (codes "NATP") m) r is.found (ap (λ os. slice_get os 0) is.owed) r_fits in
        let falling = cases_fall all 1 (λ j. ap (λ i. slice_get (is_natural m ∷ map (falls d.formals m) all) i) (one_more j) ∙ ap (λ os. slice_get os (1 + j)) (sym is.owed)) is.calls in
        by_unfolded hs hs g I (pairs_of hs fit (each_self hs))
        (wider W us [] hs G I tt (by_induct m' G (Substitute (Owed d.name 0) r) P cs (falls_by d.name r 1 all) natural falling (wider W us (join [] (map (hypothesis r xs G) all)) L G P sub p)))
      where
        one_more : (j : ℕ) → suc j ≡ 1 + j
        one_more j = omega arith

        pairs_of : (ks : List Tm) → Each (Fit W) ks → Each (Within hs) ks → Each (λ k. Fit W k × Within hs k) ks
        pairs_of [] a b = tt
        pairs_of (k ∷ ks) a b = ((a.0, b.0), pairs_of ks a.1 b.1)
