-- What rules give.
use Rattle.std.proofs.Common.{◌≡◌, ℕ, Bool, true, false, cond, List, [], ◌∷◌, ◌++◌, map, bytes_eq, codes, Option, Some, None, refl, sym, ap, ◌∙◌, subst}
use Rattle.std.specs.List.{list_all}
use Rattle.std.proofs.lemmas.Bool.{and_parts, and_from}
use Rattle.lisp_data.specs.Values.{Name}
use Rattle.terms.specs.BuiltIn.{x, y, no, yes}
use Rattle.terms.specs.Formed.{HasBasics}
use Rattle.terms.specs.Measures.{call1}
use Rattle.terms.specs.Primitives.{lookup}
use Rattle.terms.specs.Sound.{Sound}
use Rattle.terms.specs.Substitution.{Pairs, by_pairs, or_var}
use Rattle.terms.specs.Terms.{same_tm, Tm, Var, Quote, Call, Tms, Done, More, count, substitute, substitute_all}
use Rattle.terms.specs.Worlds.{Functions, World, arity, Each}
use Rattle.terms.specs.declared.entries.FunPair.{FunPair}
use Rattle.terms.specs.declared.sequent.Sequent.{Sequent}
use Rattle.terms.specs.Instances.{instance_map, sequent_terms, renamed_sequent}
use Rattle.terms.specs.Joins.{without_repeats}
use Rattle.terms.specs.Maps.{NamePairs, rename}
use Rattle.terms.proofs.Lists.{each_to}
use Rattle.terms.proofs.Models.{is_if}
use Rattle.terms.proofs.Names.{same_name, name_self}
use Rattle.terms.proofs.Same.{same_term}
use Rattle.kernel.specs.Axioms.{axiom_at, axiom_instance, on_truth, less, consp, integerp, symbolp}
use Rattle.kernel.specs.Concludes.{concludes}
use Rattle.kernel.specs.Conclusion.{alone}
use Rattle.kernel.specs.Facts.{unless_refused, under_pairs}
use Rattle.kernel.specs.Fitting.{takes, fits, fit_all, pairs_fit}
use Rattle.kernel.specs.Sequents.{equation, negation, implication, conditional, of_goal}
use Rattle.kernel.proofs.Inversions.{map_some, if_some}
use Rattle.reduction.specs.declared.found.Found.{Found}
use Rattle.reduction.specs.declared.found.Reason.TheVariants.{Ruled}
use Rattle.reduction.specs.declared.found.Source.{Source}
use Rattle.reduction.specs.declared.found.Source.TheVariants.{Axiom as AxiomSource, Theorem as TheoremSource}
use Rattle.reduction.specs.declared.rules.Rule.{Rule}
use Rattle.reduction.specs.Finding.{of_one, of_two}
use Rattle.reduction.specs.Found.{becomes}
use Rattle.reduction.specs.Hyps.{quoted_nil, quoted_t, has, proves}
use Rattle.reduction.specs.Rules.{bound_to, matched, matched_all, all_proved, by_match, by_rule, by_rules}
use Rattle.hints.specs.Facts.{citing, says, all_in, rule_from}
use Rattle.hints.specs.Formulas.{parts, parts_in, needs, needs_in, remains, remains_in, is_plain_call, reading, covers, rule_of}
use Rattle.reduction_proofs.specs.Derived.{back, is_t_by}
use Rattle.reduction_proofs.specs.Proving.{Within, Proves, IsRule}
use Rattle.reduction_proofs.specs.Reasons.{decided, part_proved, part_in, detached, detached_in, as_equation, ruled}
use Rattle.reduction_proofs.specs.Trees.{Proof, Substitute, IfTrue, ImpliesOut, Axiom, Instance}
use Rattle.reduction_proofs.proofs.Members.{Fit}
use Rattle.reduction_proofs.proofs.Deduction.{by_if_true, by_implies_out, by_an_axiom, by_instance}
use Rattle.reduction_proofs.proofs.Shortcuts.{by_back, by_is_nil}
use Rattle.reduction_proofs.proofs.Sure.{Sure, some_is, sure_or, sure_when, sure_only, sure_then, sure_some, sure_none, sure_option_map, sure_first_each}
use Rattle.reduction_proofs.proofs.Finders.{of_one_is, of_two_is, fit_one, fit_two, Equates, decided_is}

-- ---- matching
abbrev Extends : Pairs → Pairs → Type 0
Extends s s' = (n : Name) (u : Tm) → lookup s n ≡ Some u → lookup s' n ≡ Some u

-- what matching gives: more pairs, under which, and under still more, the pattern is the term
record IsMatched (s s' : Pairs) (p u : Tm) : Type 0 where
  more : Extends s s'
  is : (z : Pairs) → Extends s' z → substitute (by_pairs z) p ≡ u

record AreMatched (s s' : Pairs) (ps us : Tms) : Type 0 where
  more : Extends s s'
  is : (z : Pairs) → Extends s' z → substitute_all (by_pairs z) ps ≡ us

-- a pair at the end
lookup_more : (s : Pairs) (n : Name) (u : Tm) (m : Name) (w : Tm) → lookup s m ≡ Some w → lookup (s ++ (n, u) ∷ []) m ≡ Some w
lookup_more [] n u m w h = absurd (cc)
lookup_more (e ∷ s) n u m w h = by_test (bytes_eq e.0 m) h (lookup_more s n u m w)
  where
    by_test : (b : Bool) → cond b (Some e.1) (lookup s m) ≡ Some w → (lookup s m ≡ Some w → lookup (s ++ (n, u) ∷ []) m ≡ Some w) → cond b (Some e.1) (lookup (s ++ (n, u) ∷ []) m) ≡ Some w
    by_test true q ih = q
    by_test false q ih = ih q

lookup_new : (s : Pairs) (n : Name) (u : Tm) → lookup s n ≡ None → lookup (s ++ (n, u) ∷ []) n ≡ Some u
lookup_new [] n u h = ap (λ b. cond b (Some u) None) (name_self n)
lookup_new (e ∷ s) n u h = by_test (bytes_eq e.0 n) h (lookup_new s n u)
  where
    by_test : (b : Bool) → cond b (Some e.1) (lookup s n) ≡ None → (lookup s n ≡ None → lookup (s ++ (n, u) ∷ []) n ≡ Some u) → cond b (Some e.1) (lookup (s ++ (n, u) ∷ []) n) ≡ Some u
    by_test true q ih = absurd (cc)
    by_test false q ih = ih q

module _ (W : Functions) where
  added_fit : (s : Pairs) (n : Name) (u : Tm) → pairs_fit W s ≡ true → fits W u ≡ true → pairs_fit W (s ++ (n, u) ∷ []) ≡ true
  added_fit [] n u g f = and_from (fits W u) true f refl
  added_fit (e ∷ s) n u g f = let h = and_parts (fits W e.1) (pairs_fit W s) g in and_from (fits W e.1) (pairs_fit W (s ++ (n, u) ∷ [])) h.0 (added_fit s n u h.1 f)

  abbrev Fitted : Pairs → Pairs → Type 0
  Fitted s s' = pairs_fit W s ≡ true → pairs_fit W s' ≡ true

  bound_is : (n : Name) (u : Tm) (s : Pairs) → fits W u ≡ true → Sure (λ s'. IsMatched s s' (Var n) u × Fitted s s') (bound_to n u s (lookup s n))
  bound_is n u s f = by_pair (lookup s n) refl
    where
      by_pair : (o : Option Tm) → lookup s n ≡ o → Sure (λ s'. IsMatched s s' (Var n) u × Fitted s s') (bound_to n u s o)
      by_pair None e = sure_some (λ s'. IsMatched s s' (Var n) u × Fitted s s') (s ++ (n, u) ∷ []) (
        record {
          more = λ m w h. lookup_more s n u m w h;
          is = λ z ex. ap (or_var n) (ex n u (lookup_new s n u e));
        },
        λ g. added_fit s n u g f,
      )
      by_pair (Some v) e = sure_when (λ s'. IsMatched s s' (Var n) u × Fitted s s') (same_tm v u) s (λ q. (
        record { more = λ m w h. h; is = λ z ex. ap (or_var n) (ex n u (e ∙ ap Some (same_term v u q))) },
        λ g. g,
      ))

  mutual
    matched_is : (p u : Tm) (s : Pairs) → fits W u ≡ true → Sure (λ s'. IsMatched s s' p u × Fitted s s') (matched p u s)
    matched_is (Var n) u s f = bound_is n u s f
    matched_is (Quote v) u s f = sure_when (λ s'. IsMatched s s' (Quote v) u × Fitted s s') (same_tm (Quote v) u) s (λ q. (record { more = λ m w h. h; is = λ z ex. same_term (Quote v) u q }, λ g. g))
    matched_is (Call g ps) (Call h us) s f = sure_only (λ s'. IsMatched s s' (Call g ps) (Call h us) × Fitted s s') (bytes_eq g h) _ (λ q.
        record {
          so = λ s' e. let r = (matched_all_is ps us s (and_parts (takes (arity W h) (count us)) (fit_all W us) f).1).so s' e in
              (record { more = r.0.more; is = λ z ex. let a = same_name g h q in let b = r.0.is z ex in cc }, r.1);
        })
    matched_is (Call g ps) (Var n) s f = sure_none _
    matched_is (Call g ps) (Quote v) s f = sure_none _

    matched_all_is : (ps us : Tms) (s : Pairs) → fit_all W us ≡ true → Sure (λ s'. AreMatched s s' ps us × Fitted s s') (matched_all ps us s)
    matched_all_is Done Done s f = sure_some (λ s'. AreMatched s s' Done Done × Fitted s s') s (record { more = λ m w h. h; is = λ z ex. refl }, λ g. g)
    matched_all_is (More p ps) (More u us) s f =
        let h = and_parts (fits W u) (fit_all W us) f in
        sure_then (λ s'. AreMatched s s' (More p ps) (More u us) × Fitted s s') (matched p u s) (matched_all ps us) (λ s1 e.
        let a = (matched_is p u s h.0).so s1 e in
        record {
          so = λ s' e'. let b = (matched_all_is ps us s1 h.1).so s' e' in
              (record { more = λ m w q. b.0.more m w (a.0.more m w q); is = λ z ex. let c = a.0.is z (λ m w q. ex m w (b.0.more m w q)) in let d = b.0.is z ex in cc }, λ g. b.1 (a.1 g));
        })
    matched_all_is Done (More u us) s f = sure_none _
    matched_all_is (More p ps) Done s f = sure_none _

-- ---- axioms and theorems
pub all_in_each : (us ts : List Tm) → all_in us ts ≡ true → Each (Within us) ts
all_in_each us [] e = tt
all_in_each us (t ∷ ts) e = let h = and_parts (has us t) (list_all (has us) ts) e in (h.0, all_in_each us ts h.1)

lookup_each : {A : Type 0} (P : A → Type 0) (es : List (Name × A)) (n : Name) (a : A) → Each (λ e. P e.1) es → lookup es n ≡ Some a → P a
lookup_each P [] n a h e = absurd (cc)
lookup_each P (p ∷ es) n a h e = by_test (bytes_eq p.0 n) e (lookup_each P es n a h.1)
  where
    by_test : (b : Bool) → cond b (Some p.1) (lookup es n) ≡ Some a → (lookup es n ≡ Some a → P a) → P a
    by_test true q ih = subst P (some_is q) h.0
    by_test false q ih = ih q

theorem_alone : (W : World) → Sound W → (n : Name) (c : Sequent) → lookup W.theorems n ≡ Some c → c.hyps ≡ []
theorem_alone W sound n c e = lookup_each (λ (q : Sequent). q.hyps ≡ []) W.theorems n c (each_to _ _ (λ t h. h.0) W.theorems sound.theorems) e

axiom_alone : (W : Functions) (k : ℕ) (s : Pairs) (c : Sequent) → axiom_instance W k s ≡ Some c → c.hyps ≡ []
axiom_alone W k s c e =
    let a = if_some (pairs_fit W s) _ c e in
    let b = map_some (λ t. of_goal (substitute (by_pairs s) t)) (axiom_at k) c a.1 in
    ap (λ (q : Sequent). q.hyps) (sym b.2)

no_hyps : (W : World) → Sound W → (k : Source) (c : Sequent) → says W k ≡ Some c → c.hyps ≡ []
no_hyps W sound (AxiomSource k) c e = axiom_alone W.functions k [] c e
no_hyps W sound (TheoremSource n) c e = theorem_alone W sound n c e

-- what an axiom or a theorem says is proved
pub said_proved : (W : World) → Sound W → (us : List Tm) (k : Source) (c : Sequent) → says W k ≡ Some c → all_in us c.universals ≡ true → Proves W us [] c.goal (alone (citing k))
said_proved W sound us k c e h = record {
  universals = c.universals;
  hyps = c.hyps;
  concluded = e;
  universals_in = all_in_each us c.universals h;
  hyps_in = subst (Each (Within [])) (sym (no_hyps W sound k c e)) tt;
}

-- a function instance of a theorem has no hypotheses either
instance_alone : (W : World) → Sound W → (n : Name) (ps : List FunPair) → Sure (λ (c : Sequent). c.hyps ≡ []) (concludes W (Instance n ps))
instance_alone W sound n ps =
    let P : Sequent → Type 0 = λ c. c.hyps ≡ [] in
    sure_then P (lookup W.theorems n) (under_pairs W ps) (λ q e.
    sure_option_map P (unless_refused (instance_map W (sequent_terms q) ps)) (λ (m : NamePairs). renamed_sequent m q)
    (λ m h. ap (λ (hs : List Tm). without_repeats (map (rename m) hs)) (theorem_alone W sound n q e)))

pub instance_proved : (W : World) → Sound W → (us : List Tm) (n : Name) (ps : List FunPair) (c : Sequent) → concludes W (Instance n ps) ≡ Some c →
    all_in us c.universals ≡ true → Proves W us [] c.goal (Instance n ps)
instance_proved W sound us n ps c e h = record {
  universals = c.universals;
  hyps = c.hyps;
  concluded = e;
  universals_in = all_in_each us c.universals h;
  hyps_in = subst (Each (Within [])) (sym ((instance_alone W sound n ps).so c e)) tt;
}

-- ---- what the rule of a source is
module _ (W : World) (us : List Tm) where
  record RuleGives (k : Source) (r : Rule) : Type 0 where
    sequent : Sequent
    told : says W k ≡ Some sequent
    universals : all_in us sequent.universals ≡ true
    read : Tm × Tm
    reads : reading (remains sequent.goal) ≡ Some read
    needed : r.needs ≡ needs sequent.goal
    left : r.left ≡ read.0
    right : r.right ≡ read.1

  rule_gives : (k : Source) → Sure (RuleGives k) (rule_from W us k)
  unfolding rule_of
  rule_gives k = sure_then (RuleGives k) (says W k) _ (λ c e. sure_only (RuleGives k) (all_in us c.universals) _ (λ q.
      sure_then (RuleGives k) (reading (remains c.goal)) _ (λ d e'. sure_when (RuleGives k) (covers d.0 c.goal) (record { source = k; needs = needs c.goal; left = d.0; right = d.1 }) (λ v. record {
        sequent = c;
        told = e;
        universals = q;
        read = d;
        reads = e';
        needed = refl;
        left = refl;
        right = refl;
      }))))

consp_is_t : axiom_at 4 ≡ Some (implication (consp x) (equation (consp x) yes))
unfolding axiom_at on_truth
consp_is_t = refl

integerp_is_t : axiom_at 5 ≡ Some (implication (integerp x) (equation (integerp x) yes))
unfolding axiom_at on_truth
integerp_is_t = refl

symbolp_is_t : axiom_at 6 ≡ Some (implication (symbolp x) (equation (symbolp x) yes))
unfolding axiom_at on_truth
symbolp_is_t = refl

less_is_t : axiom_at 7 ≡ Some (implication (less x y) (equation (less x y) yes))
unfolding axiom_at on_truth
less_is_t = refl

module _ (W : World) (us : List Tm) (sound : Sound W) (basics : HasBasics W.functions) (fitting : (P : Proof) (s : Sequent) → concludes W P ≡ Some s → fits W.functions s.goal ≡ true) (hs : List Tm) (fit : Each (Fit W) hs) where
  proves_fit : (g : Tm) (P : Proof) → Proves W us hs g P → Fit W g
  proves_fit g P p = fitting P _ p.concluded

  fits_both : (p q : Tm) → Fit W p → Fit W q → Fit W (conditional p q no)
  fits_both p q f g = rw is_if (rw f (rw g refl))

  module _ (s : Pairs) where
    abbrev put : Tm → Tm
    put = substitute (by_pairs s)

    all_parts : (ps qs : List Tm) → all_proved hs s (ps ++ qs) ≡ true → (all_proved hs s ps ≡ true) × (all_proved hs s qs ≡ true)
    all_parts [] qs e = (refl, e)
    all_parts (p ∷ ps) qs e =
        let h = and_parts (proves hs (put p)) (all_proved hs s (ps ++ qs)) e in
        let r = all_parts ps qs h.1 in
        (and_from (proves hs (put p)) (all_proved hs s ps) h.0 r.0, r.1)

    one_part : (p : Tm) → all_proved hs s (p ∷ []) ≡ true → Proves W us hs (put p) (decided (put p))
    one_part p e = decided_is W us basics hs fit (put p) (and_parts (proves hs (put p)) true e).0

    both_parts : (p q : Tm) → Proves W us hs (put p) (part_proved s p) → Proves W us hs (put q) (part_proved s q) →
        Proves W us hs (put (conditional p q no)) (back (IfTrue (part_proved s p) (put q) no) (put (conditional p q no)) (part_proved s q))
    both_parts p q hp hq =
        let fq = proves_fit (put q) (part_proved s q) hq in
        by_back W us basics hs (conditional (put p) (put q) no) (put q) (IfTrue (part_proved s p) (put q) no) (part_proved s q) (fits_both (put p) (put q) (proves_fit (put p) (part_proved s p) hp) fq)
        (by_if_true W us hs (put p) (put q) no (part_proved s p) fq refl hp) hq

    mutual
      part_is : (p : Tm) → all_proved hs s (parts p) ≡ true → Proves W us hs (put p) (part_proved s p)
      part_is (Var n) e = one_part (Var n) e
      part_is (Quote v) e = one_part (Quote v) e
      part_is (Call f ts) e = by_test (bytes_eq f (codes "IF")) refl e (λ q e'. part_in_is f ts q e')
        where
          by_test : (b : Bool) → bytes_eq f (codes "IF") ≡ b → all_proved hs s (cond b (parts_in (Call f ts) ts) (Call f ts ∷ [])) ≡ true →
              (f ≡ codes "IF" → all_proved hs s (parts_in (Call f ts) ts) ≡ true → Proves W us hs (put (Call f ts)) (part_in s (Call f ts) ts)) →
              Proves W us hs (put (Call f ts)) (cond b (part_in s (Call f ts) ts) (decided (put (Call f ts))))
          by_test true q e' h = h (same_name f (codes "IF") q) e'
          by_test false q e' h = one_part (Call f ts) e'

      part_in_is : (f : Name) (ts : Tms) → f ≡ codes "IF" → all_proved hs s (parts_in (Call f ts) ts) ≡ true → Proves W us hs (put (Call f ts)) (part_in s (Call f ts) ts)
      part_in_is f Done i e = one_part (Call f Done) e
      part_in_is f (More p Done) i e = one_part (Call f (More p Done)) e
      part_in_is f (More p (More q Done)) i e = one_part (Call f (More p (More q Done))) e
      part_in_is f (More p (More q (More r Done))) i e = by_test (same_tm r quoted_nil) refl e (λ a. part_is p a) (λ a. part_is q a)
        where
          t : Tm
          t = Call f (More p (More q (More r Done)))

          by_test : (b : Bool) → same_tm r quoted_nil ≡ b → all_proved hs s (cond b (parts p ++ parts q) (t ∷ [])) ≡ true →
              (all_proved hs s (parts p) ≡ true → Proves W us hs (put p) (part_proved s p)) → (all_proved hs s (parts q) ≡ true → Proves W us hs (put q) (part_proved s q)) →
              Proves W us hs (put t) (cond b (back (IfTrue (part_proved s p) (put q) no) (put t) (part_proved s q)) (decided (put t)))
          by_test true k e' hp hq =
              let a = all_parts (parts p) (parts q) e' in
              let same : conditional p q no ≡ t = let z = same_term r quoted_nil k in cc in
              subst (λ z. Proves W us hs (put z) (back (IfTrue (part_proved s p) (put q) no) (put z) (part_proved s q))) same (both_parts p q (hp a.0) (hq a.1))
          by_test false k e' hp hq = one_part t e'
      part_in_is f (More p (More q (More r (More z ts)))) i e = one_part (Call f (More p (More q (More r (More z ts))))) e

    mutual
      detached_is : (t : Tm) (F : Proof) → all_proved hs s (needs t) ≡ true → Proves W us hs (put t) F → Proves W us hs (put (remains t)) (detached s t F)
      detached_is (Var n) F e h = h
      detached_is (Quote v) F e h = h
      detached_is (Call f ts) F e h = by_test (bytes_eq f (codes "IMPLIES")) refl e (λ q e'. detached_in_is f ts F q e' h)
        where
          by_test : (b : Bool) → bytes_eq f (codes "IMPLIES") ≡ b → all_proved hs s (cond b (needs_in ts) []) ≡ true →
              (f ≡ codes "IMPLIES" → all_proved hs s (needs_in ts) ≡ true → Proves W us hs (put (remains_in (Call f ts) ts)) (detached_in s ts F)) →
              Proves W us hs (put (cond b (remains_in (Call f ts) ts) (Call f ts))) (cond b (detached_in s ts F) F)
          by_test true q e' k = k (same_name f (codes "IMPLIES") q) e'
          by_test false q e' k = h

      detached_in_is : (f : Name) (ts : Tms) (F : Proof) → f ≡ codes "IMPLIES" → all_proved hs s (needs_in ts) ≡ true → Proves W us hs (put (Call f ts)) F →
          Proves W us hs (put (remains_in (Call f ts) ts)) (detached_in s ts F)
      detached_in_is f Done F i e h = h
      detached_in_is f (More a Done) F i e h = h
      detached_in_is f (More a (More b Done)) F i e h =
          let r = all_parts (parts a) (needs b) e in
          let imp : Proves W us hs (implication (put a) (put b)) F = subst (λ g. Proves W us hs (put (Call g (More a (More b Done)))) F) i h in
          detached_is b (ImpliesOut F (part_proved s a)) r.1 (by_implies_out W us hs (put a) (put b) F (part_proved s a) imp (part_is a r.0))
      detached_in_is f (More a (More b (More c ts))) F i e h = h

    -- what remains, read as an equation
    abbrev Reads : Tm → Tm × Tm → Type 0
    Reads c e = (F : Proof) → Proves W us hs (put c) F → Proves W us hs (equation (put e.0) (put e.1)) (as_equation (put c) F)

    of_predicate : (k : ℕ) (f : Name) → axiom_at k ≡ Some (implication (call1 f x) (equation (call1 f x) yes)) → (a : Tm) (F : Proof) → Proves W us hs (call1 f a) F → Proves W us hs (equation (call1 f a) yes) (is_t_by k a F)
    of_predicate k f i a F h =
        by_implies_out W us hs (call1 f a) (equation (call1 f a) yes) (Axiom k ((codes "X", a) ∷ [])) F
        (by_an_axiom W us hs k ((codes "X", a) ∷ []) (implication (call1 f x) (equation (call1 f x) yes)) i (and_from (fits W.functions a) true (fit_one W.functions f a (proves_fit (call1 f a) F h)) refl)) h

    reads_equal : (l r : Tm) → Reads (equation l r) (l, r)
    reads_equal l r F h = h

    reads_not : (p : Tm) → Reads (negation p) (p, quoted_nil)
    reads_not p F h = by_is_nil W us basics hs (put p) F (fit_one W.functions (codes "NOT") (put p) (proves_fit (negation (put p)) F h)) h

    reads_consp : (p : Tm) → Reads (consp p) (consp p, quoted_t)
    reads_consp p F h = of_predicate 4 (codes "CONSP") consp_is_t (put p) F h

    reads_integerp : (p : Tm) → Reads (integerp p) (integerp p, quoted_t)
    reads_integerp p F h = of_predicate 5 (codes "INTEGERP") integerp_is_t (put p) F h

    reads_symbolp : (p : Tm) → Reads (symbolp p) (symbolp p, quoted_t)
    reads_symbolp p F h = of_predicate 6 (codes "SYMBOLP") symbolp_is_t (put p) F h

    reads_less : (a b : Tm) → Reads (less a b) (less a b, quoted_t)
    reads_less a b F h =
        let f = fit_two W.functions (codes "<") (put a) (put b) (proves_fit (less (put a) (put b)) F h) in
        by_implies_out W us hs (less (put a) (put b)) (equation (less (put a) (put b)) yes) (Axiom 7 ((codes "X", put a) ∷ (codes "Y", put b) ∷ [])) F
        (by_an_axiom W us hs 7 ((codes "X", put a) ∷ (codes "Y", put b) ∷ []) (implication (less x y) (equation (less x y) yes)) less_is_t (rw f.0 (rw f.1 refl))) h

    reading_is : (c : Tm) → Sure (Reads c) (reading c)
    reading_is c =
        sure_or (Reads c) _ _ (sure_then (Reads c) (of_two (codes "EQUAL") c) _ (λ e is. sure_when (Reads c) (is_plain_call e.0) e (λ p. subst (λ d. Reads d e) (sym (of_two_is (codes "EQUAL") c e is)) (reads_equal e.0 e.1))))
        (sure_or (Reads c) _ _ (sure_option_map (Reads c) (of_one (codes "NOT") c) _ (λ p is. subst (λ d. Reads d (p, quoted_nil)) (sym (of_one_is (codes "NOT") c p is)) (reads_not p)))
        (sure_or (Reads c) _ _ (sure_option_map (Reads c) (of_one (codes "CONSP") c) _ (λ p is. subst (λ d. Reads d (d, quoted_t)) (sym (of_one_is (codes "CONSP") c p is)) (reads_consp p)))
        (sure_or (Reads c) _ _ (sure_option_map (Reads c) (of_one (codes "INTEGERP") c) _ (λ p is. subst (λ d. Reads d (d, quoted_t)) (sym (of_one_is (codes "INTEGERP") c p is)) (reads_integerp p)))
        (sure_or (Reads c) _ _ (sure_option_map (Reads c) (of_one (codes "SYMBOLP") c) _ (λ p is. subst (λ d. Reads d (d, quoted_t)) (sym (of_one_is (codes "SYMBOLP") c p is)) (reads_symbolp p)))
        (sure_option_map (Reads c) (of_two (codes "<") c) _ (λ e is. subst (λ d. Reads d (d, quoted_t)) (sym (of_two_is (codes "<") c e is)) (reads_less e.0 e.1)))))))

  -- the instance of the left side equals that of the right one
  by_gives : (s : Pairs) → pairs_fit W.functions s ≡ true → (r : Rule) → RuleGives W us r.source r → all_proved hs s r.needs ≡ true →
      Proves W us hs (equation (substitute (by_pairs s) r.left) (substitute (by_pairs s) r.right)) (ruled s r.source (says W r.source))
  by_gives s ps r g q =
      let I : Proof = Substitute (alone (citing r.source)) s in
      let t : Tm = g.sequent.goal in
      let p1 : Proves W us hs (substitute (by_pairs s) t) I = by_instance W us hs t s (alone (citing r.source)) (said_proved W sound us r.source g.sequent g.told g.universals) ps in
      let p2 : Proves W us hs (substitute (by_pairs s) (remains t)) (detached s t I) = detached_is s t I (subst (λ ns. all_proved hs s ns ≡ true) g.needed q) p1 in
      let p3 : Proves W us hs (equation (substitute (by_pairs s) g.read.0) (substitute (by_pairs s) g.read.1)) (ruled s r.source (Some g.sequent)) = (reading_is s (remains t)).so g.read g.reads (detached s t I) p2 in
      let p4 : Proves W us hs (equation (substitute (by_pairs s) r.left) (substitute (by_pairs s) r.right)) (ruled s r.source (Some g.sequent)) =
      subst (λ l. Proves W us hs (equation (substitute (by_pairs s) l) (substitute (by_pairs s) r.right)) (ruled s r.source (Some g.sequent))) (sym g.left)
      (subst (λ z. Proves W us hs (equation (substitute (by_pairs s) g.read.0) (substitute (by_pairs s) z)) (ruled s r.source (Some g.sequent))) (sym g.right) p3) in
      subst (λ o. Proves W us hs (equation (substitute (by_pairs s) r.left) (substitute (by_pairs s) r.right)) (ruled s r.source o)) (sym g.told) p4

  ruled_sure : (u : Tm) → Fit W u → (r : Rule) → IsRule W us r → Sure (Equates W us basics hs u) (by_rule hs u r)
  unfolding by_rule
  ruled_sure u fu r is =
      let E : Found → Type 0 = Equates W us basics hs u in
      sure_then E (matched r.left u []) (by_match hs r) (λ s m. sure_when E (all_proved hs s r.needs) (becomes (substitute (by_pairs s) r.right) (Ruled r.source s)) (λ q.
      let mt = (matched_is W.functions r.left u [] fu).so s m in
      subst (λ l. Proves W us hs (equation l (substitute (by_pairs s) r.right)) (ruled s r.source (says W r.source))) (mt.0.is s (λ n w h. h))
      (by_gives s (mt.1 refl) r ((rule_gives W us r.source).so r is) q)))

  pub rules_sure : (u : Tm) → Fit W u → (rs : List Rule) → Each (IsRule W us) rs → Sure (Equates W us basics hs u) (by_rules rs hs u)
  rules_sure u fu rs is = sure_first_each (IsRule W us) (Equates W us basics hs u) (by_rule hs u) rs is (ruled_sure u fu)
