-- What each rule concludes is well formed and follows under each interpretation, where its premises are and do.
use Rattle.std.proofs.Common.{◌≡◌, ◌&&◌, not, is_some, ℕ, zero, suc, slice_get, true, refl, List, [], ◌∷◌, length, map, codes, Some, None, sym, ap, ◌∙◌, subst}
use Rattle.std.proofs.lemmas.Bool.{and_parts}
use Rattle.std.specs.List.{list_all}
use Rattle.lisp_data.specs.Values.{Name, Val}
use Rattle.terms.specs.Terms.{Tm, Var, Quote, Call, Tms, count, same_tm, substitute, by_args}
use Rattle.terms.specs.Substitution.{Pairs, by_pairs}
use Rattle.terms.specs.Paths.{part_at, put_part}
use Rattle.terms.specs.Definitions.{find, Interp}
use Rattle.terms.specs.Worlds.{World, FitsSequent, Fits, IsIn, Each, TotalFor, IsTrueAt, Holds}
use Rattle.terms.specs.BuiltIn.{implies_def}
use Rattle.terms.specs.Measures.{obligations}
use Rattle.terms.specs.Sound.{Sound, AllHold, iso_conditions}
use Rattle.terms.specs.declared.definition.Definition.{Definition}
use Rattle.terms.specs.declared.sequent.Sequent.{Sequent}
use Rattle.terms.proofs.Below.{Any}
use Rattle.terms.proofs.Models.{Model, model, vals, vals-length, is_if, reaches_one, reaches_val, eval_reaches}
use Rattle.terms.proofs.Extend.{body_fits}
use Rattle.terms.proofs.Found.{each_found}
use Rattle.terms.proofs.Meaning.{val_same, val_substitute, args_bound, arity_primitive, arity_defined, of_definition, true_from, true_to}
use Rattle.terms.proofs.Later.{has_basics}
use Rattle.terms.proofs.Same.{same_term}
use Rattle.terms.proofs.Standard.{basics_table, basics_arities, basics_do, standard_fits, val_standard}
use Rattle.terms.proofs.Totality.{each_to, over_substitute, over_by_args}
use Rattle.worlds.proofs.Growth.{found, found_iso}
use Rattle.worlds.specs.Lookups.{find_iso}
use Rattle.terms.specs.Evaluation.{then_with}
use Rattle.terms.specs.Instances.{instance_map, sequent_terms, renamed_sequent}
use Rattle.terms.specs.declared.entries.FunPair.{FunPair}
use Rattle.terms.specs.declared.entries.FactName.{FactName}
use Rattle.terms.specs.declared.entries.FactName.TheVariants.{Theorem, Measure, Isomorphism}
use Rattle.instance_laws.proofs.Sequents.{instances_hold}
use Rattle.kernel.specs.Fitting.{fits, pairs_fit}
use Rattle.kernel.specs.Sequents.{without, equation, negation, implication, conditional, negated_of, sides_of, of_goal, with_goal, joined}
use Rattle.kernel.specs.Equations.{replaced, body_at, called, if_true, if_false, reflexive, unfolded}
use Rattle.kernel.specs.Logic.{substituted, by_cases, cut, weakened, contradicted, implied, detached, is_empty, instantiated, discharged, hypothesis}
use Rattle.ring_laws.specs.Expressions.{is_arithmetic}
use Rattle.ring_laws.specs.Limits.{excess_of}
use Rattle.ring_laws.specs.Polynomials.{same_polynomial}
use Rattle.ring_laws.proofs.Soundness.{ring_law, same_decides}
use Rattle.evaluator.specs.Counted.{evaluated}
use Rattle.evaluator.proofs.Values.{counted_law}
use Rattle.kernel.specs.Evaluating.{is_ground, can_evaluate, value_of, computed}
use Rattle.kernel.proofs.Evaluations.{gives_value, ground_fits}
use Rattle.kernel.specs.Axioms.{axiom_at, axiom_instance}
use Rattle.kernel.specs.Ring.{ringed}
use Rattle.kernel.specs.Facts.{item, fact_of, unless_refused, under_pairs, fact_instance}
use Rattle.kernel.proofs.AxiomTruths.{axiom_truth}
use Rattle.kernel.proofs.Inversions.{then_some, map_some, if_some, not_refused, fits_true, each_fits, pair_fits, sides_of_is, negated_of_is}
use Rattle.kernel.proofs.Joins.{join_to, without_to, map_to}
use Rattle.kernel.proofs.Parts.{over_put}
use Rattle.kernel.proofs.Truth.{Is, Always, Follows, Logical, is_equal, model_logical}
use Rattle.kernel.proofs.Follows as follow

some_is : {A : Type 0} {x y : A} → Some x ≡ Some y → x ≡ y
some_is e = cc

each_with : (P Q : Tm → Type 0) (us : List Tm) → Each P us → Each Q us → Each (λ u. P u × Q u) us
each_with P Q [] h g = tt
each_with P Q (u ∷ us) h g = ((h.0, g.0), each_with P Q us h.1 g.1)

at : (P : Sequent → Type 0) (ss : List Sequent) (k : ℕ) (s : Sequent) → Each P ss → slice_get ss k ≡ Some s → P s
at P [] k s h e = absurd (cc)
at P (t ∷ ss) zero s h e = subst P (some_is e) h.0
at P (t ∷ ss) (suc k) s h e = at P ss k s h.1 e

at_item : (P : Sequent → Type 0) (ss : List Sequent) (k : ℕ) (s : Sequent) → Each P ss → item ss k ≡ Some s → P s
at_item P ss zero s h e = absurd (cc)
at_item P ss (suc k) s h e = at P ss k s h e

module _ (W : World) (sound : Sound W) where
  abbrev pub Fit : Tm → Type 0
  Fit = Fits W.functions

  fit_equation : (a b : Tm) → Fit a → Fit b → Fit (equation a b)
  fit_equation a b p q = (arity_primitive W.functions (codes "EQUAL") _ is_equal, (p, (q, tt)))

  fit_conditional : (a b c : Tm) → Fit a → Fit b → Fit c → Fit (conditional a b c)
  fit_conditional a b c p q r = (arity_primitive W.functions (codes "IF") _ is_if, (p, (q, (r, tt))))

  fit_implication : (a b : Tm) → Fit a → Fit b → Fit (implication a b)
  fit_implication a b p q = (arity_defined W.functions sound.formed (codes "IMPLIES") implies_def (has_basics W sound).has_implies, (p, (q, tt)))

  fit_body : (f : Name) (ts : Tms) (d : Definition) → find W.functions.defs f ≡ Some d → Fit (Call f ts) → Fit (body_at d ts)
  fit_body f ts d found fit =
      let n : count ts ≡ length d.formals = cc (arity_defined W.functions sound.formed f d found) in
      over_substitute (IsIn d.formals) Any _ (by_args d.formals ts) (λ x i. over_by_args Any _ d.formals ts x n fit.1 i) d.body (body_fits W.functions sound.formed f d found)

  fit_instance : (s : Pairs) → pairs_fit W.functions s ≡ true → (t : Tm) → Fit t → Fit (substitute (by_pairs s) t)
  fit_instance s e t o = over_substitute Any Any _ (by_pairs s) (λ x p. pair_fits W.functions s e x) t o

  -- the total functions that an interpretation gives, and what is true there
  abbrev pub M : (I : Interp) → TotalFor W.functions I → Model W.functions I
  M I tot = model W.functions I (sound.total I tot)

  abbrev pub Of : (I : Interp) → TotalFor W.functions I → Name → List Val → Val
  Of I tot = let m = M I tot in m.of

  pub logical : (I : Interp) (tot : TotalFor W.functions I) → Logical (Of I tot)
  logical I tot = model_logical W.functions I (M I tot) sound.formed (has_basics W sound)

  -- well formed, and it follows under each interpretation
  pub record Good (s : Sequent) : Type 0 where
    pub fit : FitsSequent W.functions s
    pub follows : (I : Interp) (tot : TotalFor W.functions I) → Follows (Of I tot) s

  alone_fits : (g : Tm) → Fit g → FitsSequent W.functions (of_goal g)
  alone_fits g f = record { universals = tt; hyps = tt; goal = f }

  joined_fits : (p q : Sequent) (g : Tm) → FitsSequent W.functions p → FitsSequent W.functions q → Fit g → FitsSequent W.functions (joined p q g)
  joined_fits p q g fp fq f = record {
    universals = join_to Fit p.universals q.universals fp.universals fq.universals;
    hyps = join_to Fit p.hyps q.hyps fp.hyps fq.hyps;
    goal = f;
  }

  with_goal_fits : (p : Sequent) (g : Tm) → FitsSequent W.functions p → Fit g → FitsSequent W.functions (with_goal p g)
  with_goal_fits p g fp f = record { universals = fp.universals; hyps = fp.hyps; goal = f }

  pub good_hypothesis : (a : Tm) (s : Sequent) → hypothesis W.functions a ≡ Some s → Good s
  good_hypothesis a s e =
      let test = if_some (fits W.functions a) _ s e in
      let f = fits_true W.functions a test.0 in
      subst Good (some_is test.1) (record {
        fit = record { universals = tt; hyps = (f, tt); goal = f };
        follows = λ I tot. follow.hypothesis_follows (Of I tot) (logical I tot) a;
      })

  pub good_refl : (a : Tm) (s : Sequent) → reflexive W.functions a ≡ Some s → Good s
  good_refl a s e =
      let test = if_some (fits W.functions a) _ s e in
      let f = fits_true W.functions a test.0 in
      subst Good (some_is test.1) (record {
        fit = alone_fits (equation a a) (fit_equation a a f f);
        follows = λ I tot. follow.refl_follows (Of I tot) (logical I tot) a;
      })

  -- an axiom by itself, and under a substitution
  good_axiom : (k : ℕ) (a : Tm) → axiom_at k ≡ Some a → Good (of_goal a)
  good_axiom k a e =
      let t = axiom_truth k a e in record {
        fit = alone_fits a (standard_fits W.functions basics_table (basics_arities W.functions sound.formed (has_basics W sound)) a t.calls);
        follows = λ I tot. record {
          holds = λ u env h. record {
            so = λ n. t.true' env (sym (val_standard W.functions I (M I tot) basics_table (basics_do W.functions I (M I tot) sound.formed (has_basics W sound)) a env t.calls) ∙ n);
          };
        };
      }

  pub good_axiom_instance : (k : ℕ) (a : Tm) → axiom_at k ≡ Some a → (t : Pairs) → pairs_fit W.functions t ≡ true → Good (of_goal (substitute (by_pairs t) a))
  good_axiom_instance k a e t f =
      let g = good_axiom k a e in record {
        fit = alone_fits (substitute (by_pairs t) a) (fit_instance t f a g.fit.goal);
        follows = λ I tot. follow.instance_follows (Of I tot) (logical I tot) t (of_goal a) (g.follows I tot);
      }

  pub good_axiom_rule : (k : ℕ) (t : Pairs) (s : Sequent) → axiom_instance W.functions k t ≡ Some s → Good s
  good_axiom_rule k t s e =
      let test = if_some (pairs_fit W.functions t) _ s e in
      let a = map_some (λ a. of_goal (substitute (by_pairs t) a)) (axiom_at k) s test.1 in
      subst Good a.2 (good_axiom_instance k a.0 a.1 t test.0)

  pub good_replace : (path : List ℕ) (p q s : Sequent) → Good p → Good q → replaced path p q ≡ Some s → Good s
  good_replace path p q s gp gq e =
      let sides = then_some (sides_of (codes "EQUAL") p.goal) _ s e in
      let part = then_some (part_at path q.goal) _ s sides.2 in
      let test = if_some (same_tm part.0 sides.0.0) _ s part.2 in
      let put = map_some (joined p q) (put_part path sides.0.1 q.goal) s test.1 in
      let at : part_at path q.goal ≡ Some sides.0.0 = part.1 ∙ ap Some (same_term part.0 sides.0.0 test.0) in
      let is : p.goal ≡ equation sides.0.0 sides.0.1 = sides_of_is (codes "EQUAL") p.goal sides.0 sides.1 in
      let eq : Fit (equation sides.0.0 sides.0.1) = subst Fit is gp.fit.goal in
      subst Good put.2 (record {
        fit = joined_fits p q put.0 gp.fit gq.fit (over_put _ _ path sides.0.1 q.goal put.0 put.1 eq.1.1.0 gq.fit.goal);
        follows = λ I tot. follow.replace_follows (Of I tot) (logical I tot) p q sides.0.0 sides.0.1 put.0 path (gp.follows I tot) (gq.follows I tot) is at put.1;
      })

  unfold_follows : (I : Interp) (tot : TotalFor W.functions I) (f : Name) (ts : Tms) (d : Definition) → find W.functions.defs f ≡ Some d → Fit (Call f ts) → Follows (Of I tot) (of_goal (equation (Call f ts) (body_at d ts)))
  unfold_follows I tot f ts d found fit =
      let n : count ts ≡ length d.formals = cc (arity_defined W.functions sound.formed f d found) in
      record {
        holds = λ u env h.
            follow.is_equation (Of I tot) (logical I tot) env (Call f ts) (body_at d ts)
            (of_definition W.functions I (M I tot) sound.formed f d (vals (Of I tot) ts env) found (vals-length (Of I tot) ts env ∙ n)
            ∙ sym (val_same (Of I tot) (IsIn d.formals) _ _ _ (λ x i. args_bound (Of I tot) env d.formals ts x n i) d.body (body_fits W.functions sound.formed f d found))
            ∙ sym (val_substitute (Of I tot) (by_args d.formals ts) env d.body));
      }

  good_call : (t : Tm) (c : Definition × Tms) → Fit t → called W.functions t ≡ Some c → Good (of_goal (equation t (body_at c.0 c.1)))
  good_call (Var x) c f e = absurd (cc)
  good_call (Quote v) c f e = absurd (cc)
  good_call (Call g ts) c f e =
      let d = map_some (λ d. (d, ts)) (find W.functions.defs g) c e in
      subst (λ (b : Definition × Tms). Good (of_goal (equation (Call g ts) (body_at b.0 b.1)))) d.2 (record {
        fit = alone_fits (equation (Call g ts) (body_at d.0 ts)) (fit_equation (Call g ts) (body_at d.0 ts) f (fit_body g ts d.0 d.1 f));
        follows = λ I tot. unfold_follows I tot g ts d.0 d.1 f;
      })

  pub good_unfold : (t : Tm) (s : Sequent) → unfolded W.functions t ≡ Some s → Good s
  good_unfold t s e =
      let test = if_some (fits W.functions t) _ s e in
      let c = map_some (λ c. of_goal (equation t (body_at c.0 c.1))) (called W.functions t) s test.1 in
      subst Good c.2 (good_call t c.0 (fits_true W.functions t test.0) c.1)

  pub good_substitute : (t : Pairs) (p s : Sequent) → Good p → substituted W.functions t p ≡ Some s → Good s
  good_substitute t p s g e =
      let test = if_some (pairs_fit W.functions t) _ s e in
      let images = map_to Fit (substitute (by_pairs t)) p.hyps (each_to Fit _ (fit_instance t test.0) p.hyps g.fit.hyps) in
      subst Good (some_is test.1) (record {
        fit = record {
          universals = g.fit.universals;
          hyps = join_to Fit [] (map (substitute (by_pairs t)) p.hyps) tt images;
          goal = fit_instance t test.0 p.goal g.fit.goal;
        };
        follows = λ I tot. follow.instance_follows (Of I tot) (logical I tot) t p (g.follows I tot);
      })

  pub good_if_true : (b c : Tm) (p s : Sequent) → Good p → if_true W.functions b c p ≡ Some s → Good s
  good_if_true b c p s g e =
      let test = if_some (fits W.functions b && fits W.functions c) _ s e in
      let f = and_parts (fits W.functions b) (fits W.functions c) test.0 in
      let fb = fits_true W.functions b f.0 in
      let call = fit_conditional p.goal b c g.fit.goal fb (fits_true W.functions c f.1) in
      subst Good (some_is test.1) (record {
        fit = with_goal_fits p (equation (conditional p.goal b c) b) g.fit (fit_equation (conditional p.goal b c) b call fb);
        follows = λ I tot. follow.if_true_follows (Of I tot) (logical I tot) p b c (g.follows I tot);
      })

  pub good_if_false : (b c : Tm) (p s : Sequent) → Good p → if_false W.functions b c p ≡ Some s → Good s
  good_if_false b c p s g e =
      let a = then_some (negated_of p.goal) _ s e in
      let test = if_some (fits W.functions b && fits W.functions c) _ s a.2 in
      let f = and_parts (fits W.functions b) (fits W.functions c) test.0 in
      let fc = fits_true W.functions c f.1 in
      let is : p.goal ≡ negation a.0 = negated_of_is p.goal a.0 a.1 in
      let neg : Fit (negation a.0) = subst Fit is g.fit.goal in
      let call = fit_conditional a.0 b c neg.1.0 (fits_true W.functions b f.0) fc in
      subst Good (some_is test.1) (record {
        fit = with_goal_fits p (equation (conditional a.0 b c) c) g.fit (fit_equation (conditional a.0 b c) c call fc);
        follows = λ I tot. follow.if_false_follows (Of I tot) (logical I tot) p a.0 b c (g.follows I tot) is;
      })

  pub good_cases : (c : Tm) (p q s : Sequent) → Good p → Good q → by_cases W.functions c p q ≡ Some s → Good s
  good_cases c p q s gp gq e =
      let test = if_some (fits W.functions c && same_tm p.goal q.goal) _ s e in
      let f = and_parts (fits W.functions c) (same_tm p.goal q.goal) test.0 in
      subst Good (some_is test.1) (record {
        fit = record {
          universals = join_to Fit p.universals q.universals gp.fit.universals gq.fit.universals;
          hyps = join_to Fit (without p.hyps c) (without q.hyps (negation c)) (without_to Fit p.hyps c gp.fit.hyps) (without_to Fit q.hyps (negation c) gq.fit.hyps);
          goal = gp.fit.goal;
        };
        follows = λ I tot. follow.cases_follow (Of I tot) (logical I tot) c p q (gp.follows I tot) (gq.follows I tot) (same_term p.goal q.goal f.1);
      })

  pub good_cut : (p q s : Sequent) → Good p → Good q → cut p q ≡ Some s → Good s
  good_cut p q s gp gq e = subst Good (some_is e) (record {
    fit = record {
      universals = join_to Fit p.universals q.universals gp.fit.universals gq.fit.universals;
      hyps = join_to Fit p.hyps (without q.hyps p.goal) gp.fit.hyps (without_to Fit q.hyps p.goal gq.fit.hyps);
      goal = gq.fit.goal;
    };
    follows = λ I tot. follow.cut_follows (Of I tot) (logical I tot) p q (gp.follows I tot) (gq.follows I tot);
  })

  pub good_weaken : (hs us : List Tm) (p s : Sequent) → Good p → weakened W.functions hs us p ≡ Some s → Good s
  good_weaken hs us p s g e =
      let test = if_some (list_all (fits W.functions) hs && list_all (fits W.functions) us) _ s e in
      let f = and_parts (list_all (fits W.functions) hs) (list_all (fits W.functions) us) test.0 in
      subst Good (some_is test.1) (record {
        fit = record {
          universals = join_to Fit p.universals us g.fit.universals (each_fits W.functions us f.1);
          hyps = join_to Fit p.hyps hs g.fit.hyps (each_fits W.functions hs f.0);
          goal = g.fit.goal;
        };
        follows = λ I tot. follow.weaken_follows (Of I tot) (logical I tot) hs us p (g.follows I tot);
      })

  pub good_contradict : (g : Tm) (p q s : Sequent) → Good p → Good q → contradicted W.functions g p q ≡ Some s → Good s
  good_contradict g p q s gp gq e =
      let a = then_some (negated_of q.goal) _ s e in
      let test = if_some (same_tm a.0 p.goal && fits W.functions g) _ s a.2 in
      let f = and_parts (same_tm a.0 p.goal) (fits W.functions g) test.0 in
      let is : q.goal ≡ negation p.goal = negated_of_is q.goal a.0 a.1 ∙ ap negation (same_term a.0 p.goal f.0) in
      subst Good (some_is test.1) (record {
        fit = joined_fits p q g gp.fit gq.fit (fits_true W.functions g f.1);
        follows = λ I tot. follow.contradiction_follows (Of I tot) (logical I tot) g p q (gp.follows I tot) (gq.follows I tot) is;
      })

  pub good_implies_in : (a : Tm) (p s : Sequent) → Good p → implied W.functions a p ≡ Some s → Good s
  good_implies_in a p s g e =
      let test = if_some (fits W.functions a) _ s e in
      subst Good (some_is test.1) (record {
        fit = record {
          universals = g.fit.universals;
          hyps = without_to Fit p.hyps a g.fit.hyps;
          goal = fit_implication a p.goal (fits_true W.functions a test.0) g.fit.goal;
        };
        follows = λ I tot. follow.implies_in_follows (Of I tot) (logical I tot) a p (g.follows I tot);
      })

  pub good_implies_out : (p q s : Sequent) → Good p → Good q → detached p q ≡ Some s → Good s
  good_implies_out p q s gp gq e =
      let sides = then_some (sides_of (codes "IMPLIES") p.goal) _ s e in
      let test = if_some (same_tm sides.0.0 q.goal) _ s sides.2 in
      let is : p.goal ≡ implication sides.0.0 sides.0.1 = sides_of_is (codes "IMPLIES") p.goal sides.0 sides.1 in
      let imp : Fit (implication sides.0.0 sides.0.1) = subst Fit is gp.fit.goal in
      subst Good (some_is test.1) (record {
        fit = joined_fits p q sides.0.1 gp.fit gq.fit imp.1.1.0;
        follows = λ I tot. follow.implies_out_follows (Of I tot) (logical I tot) p q sides.0.0 sides.0.1 (gp.follows I tot) (gq.follows I tot) is (same_term sides.0.0 q.goal test.0);
      })

  empty_is : (ts : List Tm) → is_empty ts ≡ true → ts ≡ []
  empty_is [] e = refl
  empty_is (t ∷ ts) e = cc

  pub good_universal : (u : Tm) (t : Pairs) (s : Sequent) → instantiated W.functions u t ≡ Some s → Good s
  good_universal u t s e =
      let test = if_some (fits W.functions u && pairs_fit W.functions t) _ s e in
      let f = and_parts (fits W.functions u) (pairs_fit W.functions t) test.0 in
      let fu = fits_true W.functions u f.0 in
      subst Good (some_is test.1) (record {
        fit = record { universals = (fu, tt); hyps = tt; goal = fit_instance t f.1 u fu };
        follows = λ I tot. follow.universal_follows (Of I tot) (logical I tot) u t;
      })

  pub good_discharge : (p q s : Sequent) → Good p → Good q → discharged p q ≡ Some s → Good s
  good_discharge p q s gp gq e =
      let test = if_some (is_empty p.hyps) _ s e in
      subst Good (some_is test.1) (record {
        fit = record {
          universals = join_to Fit p.universals (without q.universals p.goal) gp.fit.universals (without_to Fit q.universals p.goal gq.fit.universals);
          hyps = gq.fit.hyps;
          goal = gq.fit.goal;
        };
        follows = λ I tot. follow.discharge_follows (Of I tot) (logical I tot) p q (gp.follows I tot) (gq.follows I tot) (empty_is p.hyps test.0);
      })

  -- what holds in the world follows under each interpretation
  good_fact : (s : Sequent) → FitsSequent W.functions s → Holds W.functions s → Good s
  good_fact s fit h = record {
    fit = fit;
    follows = λ I tot. record {
      holds = λ u env hs.
          let us = each_to (λ u. Always (Of I tot) u × Fit u) (λ u. (env' : Name → Val) → IsTrueAt W.functions I env' u) (λ u p env'. let r = p.0 env' in true_from W.functions I (M I tot) u p.1 env' r.so) s.universals (each_with (Always (Of I tot)) Fit s.universals u fit.universals) in
          let ts = each_to (λ t. Is (Of I tot) env t × Fit t) (IsTrueAt W.functions I env) (λ t p. let r = p.0 in true_from W.functions I (M I tot) t p.1 env r.so) s.hyps (each_with (Is (Of I tot) env) Fit s.hyps hs fit.hyps) in
          record { so = true_to W.functions I (M I tot) s.goal fit.goal env (h I tot us env ts) };
    };
  }

  -- a fact of the world is well formed and holds
  fact_holds : (f : FactName) (s : Sequent) → fact_of W f ≡ Some s → FitsSequent W.functions s × Holds W.functions s
  fact_holds (Theorem n) s e = let t = found W sound n s e in (t.fits, t.holds)
  fact_holds (Measure f k) s e =
      let d = then_some (find W.functions.defs f) _ s e in
      at (λ s. FitsSequent W.functions s × Holds W.functions s) (obligations d.0) k s (each_found (λ d. AllHold W.functions (obligations d)) W.functions.defs sound.obligations f d.0 d.1) d.2
  fact_holds (Isomorphism n k) s e =
      let i = then_some (find_iso W.isos n) _ s e in
      at_item (λ s. FitsSequent W.functions s × Holds W.functions s) (iso_conditions i.0) k s (found_iso W sound n i.0 i.1) i.2

  pub good_fact_rule : (f : FactName) (s : Sequent) → fact_of W f ≡ Some s → Good s
  good_fact_rule f s e = let h = fact_holds f s e in good_fact s h.0 h.1

  -- a fact under pairs
  good_under_pairs : (f : FactName) (pairs : List FunPair) (t : Sequent) → then_with (fact_of W f) (under_pairs W pairs) ≡ Some t → Good t
  good_under_pairs f pairs t e =
      let s = then_some (fact_of W f) (under_pairs W pairs) t e in
      let m = map_some (λ m. renamed_sequent m s.0) (unless_refused (instance_map W (sequent_terms s.0) pairs)) t s.2 in
      let h = fact_holds f s.0 s.1 in
      let i = instances_hold W sound s.0 h.0 pairs m.0 (not_refused (instance_map W (sequent_terms s.0) pairs) m.0 m.1) in
      subst Good m.2 (good_fact (renamed_sequent m.0 s.0) i.fits (i.holds h.1))

  pub good_instance_rule : (pairs : List FunPair) (f : FactName) (s : Sequent) → fact_instance W pairs f ≡ Some s → Good s
  good_instance_rule pairs (Theorem n) s e = good_under_pairs (Theorem n) pairs s e
  good_instance_rule pairs (Measure f k) s e = good_under_pairs (Measure f k) pairs s e
  good_instance_rule pairs (Isomorphism n k) s e = absurd (cc)

  -- a term without variables has the value that evaluation gives, whatever values variables have
  pub good_eval : (a : Tm) (s : Sequent) → computed W.functions a ≡ Some s → Good s
  good_eval a s e =
      let test = if_some (can_evaluate W.functions a) _ s e in
      let p = and_parts (fits W.functions a) (is_ground a) test.0 in
      let v = map_some (λ v. of_goal (equation a (Quote v))) (value_of (evaluated W.functions.defs a)) s test.1 in
      let g = gives_value (evaluated W.functions.defs a) v.0 v.1 in
      let f = fits_true W.functions a p.0 in
      subst Good v.2 (record {
        fit = alone_fits (equation a (Quote v.0)) (fit_equation a (Quote v.0) f tt);
        follows = λ I tot. follow.eval_follows (Of I tot) (logical I tot) a (Quote v.0) (λ env.
            let has = counted_law W.functions.defs a v.0 g.0 g.1 I in
            reaches_one _ _ _
            (reaches_val W.functions I (M I tot) (λ x. ⊥) (λ x. None) env (λ x p. absurd p) a (ground_fits W.functions a f p.1))
            (eval_reaches has.0 W.functions.defs I a (λ x. None) v.0 has.1));
      })

  pub good_ring : (a b : Tm) (s : Sequent) → ringed W.functions a b ≡ Some s → Good s
  good_ring a b s e =
      let fit = if_some (fits W.functions a && fits W.functions b) _ s e in
      let f = and_parts (fits W.functions a) (fits W.functions b) fit.0 in
      let test = if_some (is_arithmetic a && is_arithmetic b && not (is_some (excess_of a b)) && same_polynomial a b) _ s fit.1 in
      let h = and_parts (is_arithmetic a && is_arithmetic b && not (is_some (excess_of a b))) (same_polynomial a b) test.0 in
      let r = and_parts (is_arithmetic a && is_arithmetic b) (not (is_some (excess_of a b))) h.0 in
      let q = and_parts (is_arithmetic a) (is_arithmetic b) r.0 in
      let same = same_decides a b in
      let law = ring_law W sound a b (fits_true W.functions a f.0) (fits_true W.functions b f.1) q.0 q.1 (same.0 h.1) in
      subst Good (some_is test.1) (good_fact (of_goal (equation a b)) law.0 law.1)

  -- what follows under an interpretation holds under it
  pub holds_by : (I : Interp) (tot : TotalFor W.functions I) (s : Sequent) → FitsSequent W.functions s → Follows (Of I tot) s → Each (λ u. (env : Name → Val) → IsTrueAt W.functions I env u) s.universals → (env : Name → Val) → Each (IsTrueAt W.functions I env) s.hyps → IsTrueAt W.functions I env s.goal
  holds_by I tot s fit f us env hs =
      let r = f.holds
      (each_to (λ u. ((env' : Name → Val) → IsTrueAt W.functions I env' u) × Fit u) (Always (Of I tot)) (λ u h env'. record { so = true_to W.functions I (M I tot) u h.1 env' (h.0 env') }) s.universals (each_with (λ u. (env' : Name → Val) → IsTrueAt W.functions I env' u) Fit s.universals us fit.universals))
      env
      (each_to (λ h. IsTrueAt W.functions I env h × Fit h) (Is (Of I tot) env) (λ h p. record { so = true_to W.functions I (M I tot) h p.1 env p.0 }) s.hyps (each_with (IsTrueAt W.functions I env) Fit s.hyps hs fit.hyps)) in
      true_from W.functions I (M I tot) s.goal fit.goal env r.so
