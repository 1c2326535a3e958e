-- What each rule concludes follows where what it is given does.
use Rattle.std.proofs.Common.{◌≡◌, ℕ, Bool, true, false, cond, List, [], ◌∷◌, map, Some, refl, sym, ap, ◌∙◌, subst}
use Rattle.lisp_data.specs.Values.{Name, Val, same_val}
use Rattle.terms.specs.Primitives.{is_nil, truth, choose}
use Rattle.terms.specs.Terms.{Tm, substitute}
use Rattle.terms.specs.Substitution.{Pairs, by_pairs}
use Rattle.terms.specs.Paths.{part_at, put_part}
use Rattle.terms.specs.Worlds.{Each}
use Rattle.terms.specs.declared.sequent.Sequent.{Sequent}
use Rattle.terms.proofs.Models.{val}
use Rattle.terms.proofs.Meaning.{same_value, value_self, val_substitute, not_nil, nil_false}
use Rattle.terms.proofs.Basics.{t_not_nil}
use Rattle.terms.proofs.Totality.{each_to, each_of_map}
use Rattle.kernel.specs.Sequents.{join, without, equation, negation, implication, conditional, of_goal, with_goal, joined}
use Rattle.kernel.specs.Logic.{instance_of, of_cases}
use Rattle.kernel.proofs.Joins.{join_parts, without_parts}
use Rattle.kernel.proofs.Parts.{val_put}
use Rattle.kernel.proofs.Truth.{Is, Always, Follows, Logical}

module _ (F : Name → List Val → Val) (logical : Logical F) where
  -- an equation is true where its sides have the same value
  pub is_equation : (env : Name → Val) (a b : Tm) → val F a env ≡ val F b env → Is F env (equation a b)
  is_equation env a b e = record {
    so = λ h. t_not_nil (ap truth (sym (value_self (val F a env))) ∙ ap (λ z. truth (same_val (val F a env) z)) e ∙ sym (logical.of_equal (val F a env) (val F b env)) ∙ h);
  }

  equation_is : (env : Name → Val) (a b : Tm) → Is F env (equation a b) → val F a env ≡ val F b env
  equation_is env a b h = by_test (same_val (val F a env) (val F b env)) refl
    where
      by_test : (c : Bool) → same_val (val F a env) (val F b env) ≡ c → val F a env ≡ val F b env
      by_test true e = same_value _ _ e
      by_test false e = absurd (h.so (logical.of_equal _ _ ∙ ap truth e))

  pub hypothesis_follows : (a : Tm) → Follows F (record { universals = []; hyps = a ∷ []; goal = a })
  hypothesis_follows a = record { holds = λ u env h. h.0 }

  pub refl_follows : (a : Tm) → Follows F (of_goal (equation a a))
  refl_follows a = record { holds = λ u env h. is_equation env a a refl }

  -- a term that always has a value equals it
  pub eval_follows : (a b : Tm) → ((env : Name → Val) → val F a env ≡ val F b env) → Follows F (of_goal (equation a b))
  eval_follows a b same = record { holds = λ u env h. is_equation env a b (same env) }

  pub replace_follows : (p q : Sequent) (a b goal : Tm) (path : List ℕ) → Follows F p → Follows F q → p.goal ≡ equation a b → part_at path q.goal ≡ Some a → put_part path b q.goal ≡ Some goal → Follows F (joined p q goal)
  replace_follows p q a b goal path fp fq e at put = record {
    holds = λ u env h.
        let us = join_parts (Always F) p.universals q.universals u in
        let hs = join_parts (Is F env) p.hyps q.hyps h in
        let same = equation_is env a b (subst (Is F env) e (fp.holds us.0 env hs.0)) in
        let before = fq.holds us.1 env hs.1 in
        record { so = λ z. before.so (sym (val_put F env path a b q.goal goal at put same) ∙ z) };
  }

  -- a term under a substitution is true where the term is at the values of what is put in
  moved : (s : Pairs) (env : Name → Val) (t : Tm) → Is F env (substitute (by_pairs s) t) → Is F (λ x. val F (by_pairs s x) env) t
  moved s env t h = record { so = λ e. h.so (val_substitute F (by_pairs s) env t ∙ e) }

  pub moved_back : (s : Pairs) (env : Name → Val) (t : Tm) → Is F (λ x. val F (by_pairs s x) env) t → Is F env (substitute (by_pairs s) t)
  moved_back s env t h = record { so = λ e. h.so (sym (val_substitute F (by_pairs s) env t) ∙ e) }

  pub instance_follows : (s : Pairs) (p : Sequent) → Follows F p → Follows F (instance_of s p)
  instance_follows s p f = record {
    holds = λ u env h.
        let all = (join_parts (Is F env) [] (map (substitute (by_pairs s)) p.hyps) h).1 in
        let hs = each_of_map (Is F env) (substitute (by_pairs s)) p.hyps all in
        moved_back s env p.goal (f.holds u (λ x. val F (by_pairs s x) env) (each_to _ _ (moved s env) p.hyps hs));
  }

  pub if_true_follows : (p : Sequent) (b c : Tm) → Follows F p → Follows F (with_goal p (equation (conditional p.goal b c) b))
  if_true_follows p b c f = record {
    holds = λ u env h.
        let t = f.holds u env h in
        is_equation env (conditional p.goal b c) b (logical.of_if _ _ _ ∙ ap (λ x. cond x (val F c env) (val F b env)) (nil_false _ t.so));
  }

  pub if_false_follows : (p : Sequent) (a b c : Tm) → Follows F p → p.goal ≡ negation a → Follows F (with_goal p (equation (conditional a b c) c))
  if_false_follows p a b c f e = record {
    holds = λ u env h.
        let t = subst (Is F env) e (f.holds u env h) in
        let z = logical.true_not (val F a env) t.so in
        is_equation env (conditional a b c) c (logical.of_if _ _ _ ∙ ap (λ x. choose x (val F b env) (val F c env)) z);
  }

  pub cases_follow : (c : Tm) (p q : Sequent) → Follows F p → Follows F q → p.goal ≡ q.goal → Follows F (of_cases c p q)
  cases_follow c p q fp fq e = record {
    holds = λ u env h.
        let us = join_parts (Always F) p.universals q.universals u in
        let hs = join_parts (Is F env) (without p.hyps c) (without q.hyps (negation c)) h in
        either env (is_nil (val F c env)) refl
        (λ t. fp.holds us.0 env (without_parts (Is F env) p.hyps c t hs.0))
        (λ t. subst (Is F env) (sym e) (fq.holds us.1 env (without_parts (Is F env) q.hyps (negation c) t hs.1)));
  }
    where
      either : (env : Name → Val) (b : Bool) → is_nil (val F c env) ≡ b → (Is F env c → Is F env p.goal) → (Is F env (negation c) → Is F env p.goal) → Is F env p.goal
      either env true t f g = g (record { so = logical.not_true (val F c env) t })
      either env false t f g = f (record { so = not_nil (val F c env) t })

  pub cut_follows : (p q : Sequent) → Follows F p → Follows F q → Follows F (record { universals = join p.universals q.universals; hyps = join p.hyps (without q.hyps p.goal); goal = q.goal })
  cut_follows p q fp fq = record {
    holds = λ u env h.
        let us = join_parts (Always F) p.universals q.universals u in
        let hs = join_parts (Is F env) p.hyps (without q.hyps p.goal) h in
        fq.holds us.1 env (without_parts (Is F env) q.hyps p.goal (fp.holds us.0 env hs.0) hs.1);
  }

  pub weaken_follows : (hs us : List Tm) (p : Sequent) → Follows F p → Follows F (record { universals = join p.universals us; hyps = join p.hyps hs; goal = p.goal })
  weaken_follows hs us p f = record {
    holds = λ u env h. f.holds (join_parts (Always F) p.universals us u).0 env (join_parts (Is F env) p.hyps hs h).0;
  }

  pub contradiction_follows : (g : Tm) (p q : Sequent) → Follows F p → Follows F q → q.goal ≡ negation p.goal → Follows F (joined p q g)
  contradiction_follows g p q fp fq e = record {
    holds = λ u env h.
        let us = join_parts (Always F) p.universals q.universals u in
        let hs = join_parts (Is F env) p.hyps q.hyps h in
        let t = fp.holds us.0 env hs.0 in
        let n = subst (Is F env) e (fq.holds us.1 env hs.1) in
        absurd (t.so (logical.true_not (val F p.goal env) n.so));
  }

  pub implies_in_follows : (a : Tm) (p : Sequent) → Follows F p → Follows F (record { universals = p.universals; hyps = without p.hyps a; goal = implication a p.goal })
  implies_in_follows a p f = record {
    holds = λ u env h. record {
      so =
          logical.implies_true (val F a env) (val F p.goal env)
          (λ t. let r = f.holds u env (without_parts (Is F env) p.hyps a (record { so = t }) h) in r.so);
    };
  }

  pub implies_out_follows : (p q : Sequent) (a b : Tm) → Follows F p → Follows F q → p.goal ≡ implication a b → a ≡ q.goal → Follows F (joined p q b)
  implies_out_follows p q a b fp fq e same = record {
    holds = λ u env h.
        let us = join_parts (Always F) p.universals q.universals u in
        let hs = join_parts (Is F env) p.hyps q.hyps h in
        let i = subst (Is F env) e (fp.holds us.0 env hs.0) in
        let t = subst (Is F env) (sym same) (fq.holds us.1 env hs.1) in
        record { so = logical.true_implies (val F a env) (val F b env) i.so t.so };
  }

  pub universal_follows : (u : Tm) (s : Pairs) → Follows F (record { universals = u ∷ []; hyps = []; goal = substitute (by_pairs s) u })
  universal_follows u s = record { holds = λ us env h. moved_back s env u (us.0 (λ x. val F (by_pairs s x) env)) }

  pub discharge_follows : (p q : Sequent) → Follows F p → Follows F q → p.hyps ≡ [] → Follows F (record { universals = join p.universals (without q.universals p.goal); hyps = q.hyps; goal = q.goal })
  discharge_follows p q fp fq e = record {
    holds = λ u env h.
        let us = join_parts (Always F) p.universals (without q.universals p.goal) u in
        let always : Always F p.goal = λ env'. fp.holds us.0 env' (subst (Each (Is F env')) (sym e) tt) in
        fq.holds (without_parts (Always F) q.universals p.goal always us.1) env h;
  }
