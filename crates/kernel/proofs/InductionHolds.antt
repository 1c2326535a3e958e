-- What induction concludes is well formed and follows, where its premises are and do.
use Rattle.std.proofs.Common.{◌≡◌, ◌&&◌, ◌||◌, ◌<◌, ℕ, zero, suc, Bool, true, false, List, [], ◌∷◌, pos, codes, Some, refl, sym, ap, ◌∙◌, subst, arith}
use Rattle.std.proofs.lemmas.Bool.{and_parts}
use Rattle.std.specs.List.{list_all, list_any}
use Rattle.lisp_data.specs.Values.{Name, Val, Int}
use Rattle.terms.specs.Measures.{call1, call2}
use Rattle.terms.specs.Substitution.{Pairs, by_pairs}
use Rattle.terms.specs.Terms.{Tm, same_tm, substitute}
use Rattle.terms.specs.Worlds.{World, Functions, Each, Fits, TotalFor}
use Rattle.terms.specs.Definitions.{Interp}
use Rattle.terms.specs.Sound.{Sound}
use Rattle.terms.specs.declared.sequent.Sequent.{Sequent}
use Rattle.terms.proofs.Models.{val}
use Rattle.terms.proofs.Meaning.{val_substitute}
use Rattle.terms.proofs.Same.{same_term}
use Rattle.proof_objects.specs.declared.step.InductionCase.{InductionCase}
use Rattle.kernel.specs.Fitting.{fits, pairs_fit}
use Rattle.kernel.specs.Logic.{is_empty}
use Rattle.kernel.specs.Sequents.{join}
use Rattle.kernel.specs.Induction.{says_natural, assumption, all_assumed, smaller, falls_in, all_fall, with_universals, induced}
use Rattle.kernel.proofs.Inversions.{if_some}
use Rattle.kernel.proofs.Joins.{join_parts, join_to}
use Rattle.kernel.proofs.Truth.{Is, Always, Follows, Logical}
use Rattle.kernel.proofs.Follows.{moved_back}
use Rattle.kernel.proofs.Good as good

some_is : {A : Type 0} {x y : A} → Some x ≡ Some y → x ≡ y
some_is e = cc

empty_is : (ts : List Tm) → is_empty ts ≡ true → ts ≡ []
empty_is [] e = refl
empty_is (t ∷ ts) e = cc

-- what holds of all universals, and the other way round
module _ (P : Tm → Type 0) where
  universals_parts : (us : List Tm) (qs : List Sequent) → Each P (with_universals us qs) → Each P us × Each (λ q. Each P q.universals) qs
  universals_parts us [] h = (h, tt)
  universals_parts us (q ∷ qs) h =
      let r = universals_parts (join us q.universals) qs h in
      let s = join_parts P us q.universals r.0 in
      (s.0, (s.1, r.1))

  universals_to : (us : List Tm) (qs : List Sequent) → Each P us → Each (λ q. Each P q.universals) qs → Each P (with_universals us qs)
  universals_to us [] h g = h
  universals_to us (q ∷ qs) h g = universals_to (join us q.universals) qs (join_to P us q.universals h g.0) g.1

module _ (F : Name → List Val → Val) (logical : Logical F) where
  -- where the test of the case is true, the measure is less under its substitution
  abbrev Falls : Tm → InductionCase → Type 0
  Falls m c = (env : Name → Val) → Is F env c.test → Is F env (smaller m c)

  falls_by : (W : Functions) (m : Tm) (c : InductionCase) (q : Sequent) → Follows F q → Each (Always F) q.universals → falls_in W m c q ≡ true → Falls m c
  falls_by W m c q f u e env t =
      let a = and_parts (fits W c.test && pairs_fit W c.subst && list_all (same_tm c.test) q.hyps) (same_tm (smaller m c) q.goal) e in
      let b = and_parts (fits W c.test && pairs_fit W c.subst) (list_all (same_tm c.test) q.hyps) a.0 in
      subst (Is F env) (sym (same_term (smaller m c) q.goal a.1)) (f.holds u env (only_test q.hyps b.1))
    where
      only_test : (hs : List Tm) → list_all (same_tm c.test) hs ≡ true → Each (Is F env) hs
      only_test [] k = tt
      only_test (h ∷ hs) k = let r = and_parts (same_tm c.test h) (list_all (same_tm c.test) hs) k in (subst (Is F env) (same_term c.test h r.0) t, only_test hs r.1)

  all_falls : (W : Functions) (m : Tm) (cs : List InductionCase) (qs : List Sequent) → Each (Follows F) qs → Each (λ q. Each (Always F) q.universals) qs → all_fall W m cs qs ≡ true → Each (Falls m) cs
  all_falls W m [] qs f u e = tt
  all_falls W m (c ∷ cs) [] f u e = absurd (cc)
  all_falls W m (c ∷ cs) (q ∷ qs) f u e =
      let r = and_parts (falls_in W m c q) (all_fall W m cs qs) e in
      (falls_by W m c q f.0 u.0 r.0, all_falls W m cs qs f.1 u.1 r.1)

  module _ (m g : Tm) (is_natural : (env : Name → Val) → Is F env (call1 (codes "NATP") m)) where
    natural : (env : Name → Val) → (k : ℕ) × (val F m env ≡ Int (pos k))
    natural env = let n = is_natural env in logical.true_natp (val F m env) n.so

    -- the value of the measure
    abbrev rank : (Name → Val) → ℕ
    rank env = (natural env).0

    rank_falls : (s : Pairs) (env : Name → Val) → Is F env (call2 (codes "<") (substitute (by_pairs s) m) m) → rank (λ x. val F (by_pairs s x) env) < rank env
    rank_falls s env h =
        let env' = λ (x : Name). val F (by_pairs s x) env in
        let e : F (codes "<") (val F (substitute (by_pairs s) m) env ∷ val F m env ∷ []) ≡ F (codes "<") (Int (pos (rank env')) ∷ Int (pos (rank env)) ∷ []) =
        ap (λ x. F (codes "<") (x ∷ val F m env ∷ [])) (val_substitute F (by_pairs s) env m ∙ (natural env').1) ∙ ap (λ x. F (codes "<") (Int (pos (rank env')) ∷ x ∷ [])) (natural env).1 in
        logical.true_less (rank env') (rank env) (λ z. h.so (e ∙ z))

    -- where the goal is true at each smaller value of the measure, the induction hypotheses are
    module _ (env : Name → Val) (below : (env' : Name → Val) → rank env' < rank env → Is F env' g) where
      assumption_holds : (c : InductionCase) → Falls m c → Is F env (assumption g c)
      assumption_holds c f = record {
        so =
            logical.implies_true (val F c.test env) (val F (substitute (by_pairs c.subst) g) env)
            (λ t. let r = moved_back F logical c.subst env g (below (λ x. val F (by_pairs c.subst x) env) (rank_falls c.subst env (f env (record { so = t })))) in r.so);
      }

      one_holds : (h : Tm) (cs : List InductionCase) → Each (Falls m) cs → list_any (λ c. same_tm (assumption g c) h) cs ≡ true → Is F env h
      one_holds h [] f e = absurd (cc)
      one_holds h (c ∷ cs) f e = by_test (same_tm (assumption g c) h) refl e (one_holds h cs f.1)
        where
          by_test : (b : Bool) → same_tm (assumption g c) h ≡ b → (b || list_any (λ c'. same_tm (assumption g c') h) cs) ≡ true → (list_any (λ c'. same_tm (assumption g c') h) cs ≡ true → Is F env h) → Is F env h
          by_test true s e' ih = subst (Is F env) (same_term (assumption g c) h s) (assumption_holds c f.0)
          by_test false s e' ih = ih e'

      all_hold : (cs : List InductionCase) → Each (Falls m) cs → (hs : List Tm) → all_assumed g cs hs ≡ true → Each (Is F env) hs
      all_hold cs f [] e = tt
      all_hold cs f (h ∷ hs) e =
          let r = and_parts (list_any (λ c. same_tm (assumption g c) h) cs) (all_assumed g cs hs) e in
          (one_holds h cs f r.0, all_hold cs f hs r.1)

    -- induction on the value of the measure
    by_rank : (cs : List InductionCase) → Each (Falls m) cs → (hs : List Tm) → all_assumed g cs hs ≡ true → ((env : Name → Val) → Each (Is F env) hs → Is F env g) → (k : ℕ) (env : Name → Val) → rank env < k → Is F env g
    by_rank cs f hs e base zero env lt = absurd (omega arith)
    by_rank cs f hs e base (suc k) env lt = base env (all_hold env (λ env' l. by_rank cs f hs e base k env' (omega arith)) cs f hs e)

  induct_follows : (W : Functions) (m : Tm) (cs : List InductionCase) (p b : Sequent) (qs : List Sequent) → Follows F p → Follows F b → Each (Follows F) qs → says_natural m p ≡ true → all_assumed b.goal cs b.hyps ≡ true → all_fall W m cs qs ≡ true → Follows F (record { universals = with_universals (join p.universals b.universals) qs; hyps = []; goal = b.goal })
  induct_follows W m cs p b qs fp fb fq n a l = record {
    holds = λ u env h.
        let all = universals_parts (Always F) (join p.universals b.universals) qs u in
        let two = join_parts (Always F) p.universals b.universals all.0 in
        let n' = and_parts (is_empty p.hyps) (same_tm (call1 (codes "NATP") m) p.goal) n in
        let is_natural : (env' : Name → Val) → Is F env' (call1 (codes "NATP") m) =
        λ env'. subst (Is F env') (sym (same_term (call1 (codes "NATP") m) p.goal n'.1)) (fp.holds two.0 env' (subst (Each (Is F env')) (sym (empty_is p.hyps n'.0)) tt)) in
        by_rank m b.goal is_natural cs (all_falls W m cs qs fq all.1 l) b.hyps a (λ env'. fb.holds two.1 env') (suc (rank m b.goal is_natural env)) env (omega arith);
  }

module _ (W : World) (sound : Sound W) where
  abbrev Good : Sequent → Type 0
  Good = good.Good W sound

  all_follow : (I : Interp) (tot : TotalFor W.functions I) (qs : List Sequent) → Each Good qs → Each (Follows (good.Of W sound I tot)) qs
  all_follow I tot [] g = tt
  all_follow I tot (q ∷ qs) g = let f = g.0 in (f.follows I tot, all_follow I tot qs g.1)

  universals_fit : (qs : List Sequent) → Each Good qs → Each (λ q. Each (Fits W.functions) q.universals) qs
  universals_fit [] g = tt
  universals_fit (q ∷ qs) g = let f = g.0 in (f.fit.universals, universals_fit qs g.1)

  pub good_induct : (m : Tm) (cs : List InductionCase) (p b : Sequent) (qs : List Sequent) (s : Sequent) → Good p → Good b → Each Good qs → induced W.functions m cs p b qs ≡ Some s → Good s
  good_induct m cs p b qs s gp gb gq e =
      let test = if_some (says_natural m p && all_assumed b.goal cs b.hyps && all_fall W.functions m cs qs) _ s e in
      let h = and_parts (says_natural m p && all_assumed b.goal cs b.hyps) (all_fall W.functions m cs qs) test.0 in
      let k = and_parts (says_natural m p) (all_assumed b.goal cs b.hyps) h.0 in
      subst Good (some_is test.1) (record {
        fit = record {
          universals = universals_to (Fits W.functions) (join p.universals b.universals) qs (join_to (Fits W.functions) p.universals b.universals gp.fit.universals gb.fit.universals) (universals_fit qs gq);
          hyps = tt;
          goal = gb.fit.goal;
        };
        follows = λ I tot. induct_follows (good.Of W sound I tot) (good.logical W sound I tot) W.functions m cs p b qs (gp.follows I tot) (gb.follows I tot) (all_follow I tot qs gq) k.0 k.1 h.1;
      })
