-- The start of a reduction, with the steps after it.
use Rattle.std.proofs.Common.{◌≡◌, ℕ, true, is_some, List, [], ◌∷◌, ◌++◌, map, Option, Some, None, refl, sym, ap, ◌∙◌, subst}
use Rattle.lisp_data.specs.Values.{Name}
use Rattle.terms.specs.Definitions.{find}
use Rattle.terms.specs.Joins.{join}
use Rattle.terms.specs.Measures.{RecursiveCall, recursive_calls}
use Rattle.terms.specs.Sound.{Sound}
use Rattle.terms.specs.Substitution.{by_pairs}
use Rattle.terms.specs.Terms.{Tm, substitute}
use Rattle.terms.specs.Worlds.{World, Distinct, Each}
use Rattle.terms.specs.declared.definition.Definition.{Definition}
use Rattle.terms.specs.declared.entries.FunPair.{FunPair}
use Rattle.terms.proofs.Later.{has_basics}
use Rattle.terms.proofs.Lists.{join_to}
use Rattle.kernel.specs.Conclusion.{alone}
use Rattle.kernel.specs.Fitting.{pairs_fit}
use Rattle.kernel.proofs.Inversions.{fits_decides, pairs_fit_each}
use Rattle.reduction.specs.declared.found.Source.{Source}
use Rattle.reduction.specs.declared.found.Source.TheVariants as source
use Rattle.reduction.specs.declared.moves.Subgoal.{Subgoal}
use Rattle.reduction.specs.declared.run.Made.{Made}
use Rattle.reduction.specs.declared.run.Outcome.TheVariants.{Closed}
use Rattle.reduction.specs.Moves.{subgoal}
use Rattle.hints.specs.declared.hint.Fact.{Fact}
use Rattle.hints.specs.declared.hint.Fact.TheVariants.{Axiom, Theorem, Instance, Assumed}
use Rattle.hints.specs.declared.hint.Hints.{Hints}
use Rattle.hints.specs.declared.hint.Scheme.{Scheme}
use Rattle.hints.specs.declared.hint.Use.{Use}
use Rattle.hints.specs.Facts.{citing}
use Rattle.hints.specs.Start.{folded, hypothesis, as_variables, by_defined, inducted, with_hyps, start, reduced}
use Rattle.reduction_proofs.specs.Laws.{ReductionsProve}
use Rattle.reduction_proofs.specs.Proving.{Within, Proves, AllProved, IsSaid, IsInstance, IsFact, IsUse, IsOver, IsScheme, FitsHints}
use Rattle.reduction_proofs.specs.Start.{fact_under, without_uses, by_measure, by_definition, before_induction, first_or, proof_of}
use Rattle.reduction_proofs.specs.Trees as tree
use Rattle.reduction_proofs.specs.Trees.{Proof, Hyp, Substitute, Cut}
use Rattle.reduction_proofs.specs.WayBack.{proofs}
use Rattle.reduction_proofs.proofs.Members.{Fit, each_fit, each_left, each_right}
use Rattle.reduction_proofs.proofs.Deduction.{wider, by_cut, by_instance, condition_proved}
use Rattle.reduction_proofs.proofs.Induction.{folded_fits, hypotheses_fit, induction_proves}
use Rattle.reduction_proofs.proofs.Moves.{Ok}
use Rattle.reduction_proofs.proofs.Recursive.{has_measure, is_recursive}
use Rattle.reduction_proofs.proofs.Reduced.{goal_fits, proves_fit, reduce_proves}
use Rattle.reduction_proofs.proofs.Rules.{said_proved, instance_proved}

none_not : (o : Option Tm) → o ≡ None → is_some o ≡ true → ⊥
none_not None e h = cc
none_not (Some t) e h = cc

module _ (W : World) (sound : Sound W) (us : List Tm) where
  abbrev Shows : Subgoal → Proof → Type 0
  Shows s P = Proves W us s.hyps s.goal P

  -- ---- facts
  said_under : (k : Source) (u : Use) (t : Tm) → IsSaid W us k t → pairs_fit W.functions u.s ≡ true → u.hyp ≡ substitute (by_pairs u.s) t → Proves W us [] u.hyp (Substitute (alone (citing k)) u.s)
  said_under k u t is f e =
      let P : Proof = Substitute (alone (citing k)) u.s in
      subst (λ g. Proves W us [] g P) (ap (substitute (by_pairs u.s)) is.goal ∙ sym e)
      (by_instance W us [] is.sequent.goal u.s (alone (citing k)) (said_proved W sound us k is.sequent is.told is.universals_in) f)

  instance_under : (n : Name) (ps : List FunPair) (u : Use) (t : Tm) → IsInstance W us n ps t → pairs_fit W.functions u.s ≡ true → u.hyp ≡ substitute (by_pairs u.s) t →
      Proves W us [] u.hyp (Substitute (tree.Instance n ps) u.s)
  instance_under n ps u t is f e =
      let P : Proof = Substitute (tree.Instance n ps) u.s in
      subst (λ g. Proves W us [] g P) (ap (substitute (by_pairs u.s)) is.goal ∙ sym e)
      (by_instance W us [] is.sequent.goal u.s (tree.Instance n ps) (instance_proved W sound us n ps is.sequent is.told is.universals_in) f)

  fact_proved : (u : Use) (fact : Fact) (t : Tm) → IsFact W us fact t → pairs_fit W.functions u.s ≡ true → u.hyp ≡ substitute (by_pairs u.s) t → Proves W us [] u.hyp (fact_under u.s fact)
  fact_proved u (Axiom k) t is f e = said_under (source.Axiom k) u t is f e
  fact_proved u (Theorem n) t is f e = said_under (source.Theorem n) u t is f e
  fact_proved u (Instance n ps) t is f e = instance_under n ps u t is f e
  fact_proved u (Assumed v) t is f e =
      subst (λ g. Proves W us [] g (fact_under u.s (Assumed v))) (ap (substitute (by_pairs u.s)) is.0 ∙ sym e)
      (record { universals = v ∷ []; hyps = []; concluded = rw ((fits_decides W.functions v).1 is.2) (rw f refl); universals_in = (is.1, tt); hyps_in = tt })

  use_proved : (u : Use) → IsUse W us u → Proves W us [] u.hyp (fact_under u.s u.fact)
  use_proved u is = fact_proved u u.fact is.formula is.fact (pairs_fit_each W.functions u.s is.pairs) is.hyp

  abbrev used : List Use → List Tm
  used = map (λ u. u.hyp)

  by_uses : (uses : List Use) (hs : List Tm) (g : Tm) (P : Proof) → Each (IsUse W us) uses → Proves W us (used uses ++ hs) g P → Proves W us hs g (without_uses uses P)
  by_uses [] hs g P h p = p
  by_uses (u ∷ uses) hs g P h p =
      let U : Proof = fact_under u.s u.fact in
      let big : List Tm = used uses ++ hs in
      by_uses uses hs g (Cut U P) h.1 (by_cut W us big u.hyp g U P (wider W us [] big u.hyp U tt (use_proved u h.0)) p)

  with_uses_proves : (uses : List Use) (s : Subgoal) (P : Proof) → Each (IsUse W us) uses → Shows (with_hyps (used uses) s) P → Shows s (without_uses uses P)
  with_uses_proves uses s P h p =
      by_uses uses s.hyps s.goal P h
      (wider W us (join s.hyps (used uses)) (used uses ++ s.hyps) s.goal P (join_to (Within (used uses ++ s.hyps)) s.hyps (used uses) (each_right (used uses) s.hyps) (each_left (used uses) s.hyps)) p)

  uses_fit : (uses : List Use) → Each (IsUse W us) uses → Each (Fit W) (used uses)
  uses_fit [] h = tt
  uses_fit (u ∷ uses) h = (proves_fit W us sound (has_basics W sound) (goal_fits W sound) [] u.hyp (fact_under u.s u.fact) (use_proved u h.0), uses_fit uses h.1)

  with_uses_ok : (uses : List Use) (s : Subgoal) → Each (IsUse W us) uses → Ok W s → Ok W (with_hyps (used uses) s)
  with_uses_ok uses s h ok = record { hyps = join_to (Fit W) s.hyps (used uses) ok.hyps (uses_fit uses h); goal = ok.goal }

  -- ---- induction
  -- the subgoal after an induction is well formed, and its proof gives the one before it
  record Leads (s t : Subgoal) (back : Proof → Proof) : Type 0 where
    ok : Ok W s → Ok W t
    proves : Ok W s → (P : Proof) → Shows t P → Shows s (back P)

  stays : (s : Subgoal) → Leads s s (λ P. P)
  stays s = record { ok = λ o. o; proves = λ o P p. p }

  module _ (xs : List Name) (distinct : Distinct xs) (s : Subgoal) (f : Name) (d : Definition) (found : find W.functions.defs f ≡ Some d) (over : IsOver xs d) where
    leads_by : (o : Option Tm) → d.measure ≡ o → Leads s (by_defined xs s (Some d)) (by_measure xs s d o)
    leads_by None e = absurd (none_not d.measure e (has_measure W sound f d found over.recursive))
    leads_by (Some m) e =
        let calls : List RecursiveCall = recursive_calls d.name [] d.body in
        let is = is_recursive W sound f d found over.recursive m e in
        let basics = has_basics W sound in
        let g : Tm = folded s.hyps s.goal in
        let ks : List Tm = map (hypothesis (as_variables d xs) xs g) calls in
        record {
          ok = λ o. let fg : Fit W g = folded_fits W us basics s.hyps s.goal o.hyps o.goal in
              record { hyps = join_to (Fit W) [] ks tt (hypotheses_fit W us basics d m calls is xs distinct over.lengths g calls fg is.calls); goal = fg };
          proves = λ o P p. induction_proves W us basics d m calls is xs distinct over.lengths s.hyps s.goal o.hyps P p;
        }

  leads_over : (xs : List Name) → Distinct xs → (s : Subgoal) (f : Name) (o : Option Definition) → find W.functions.defs f ≡ o → ((d : Definition) → find W.functions.defs f ≡ Some d → IsOver xs d) → Leads s (by_defined xs s o) (by_definition xs s o)
  leads_over xs distinct s f None e h = stays s
  leads_over xs distinct s f (Some d) e h = leads_by xs distinct s f d e (h d e) d.measure refl

  leads : (i : Option Scheme) → IsScheme W i → (s : Subgoal) → Leads s (inducted W i s) (before_induction W i s)
  leads None h s = stays s
  leads (Some i) h s = leads_over i.over h.0 s i.function (find W.functions.defs i.function) refl h.1

  -- ---- the whole
  first_proves : (s : Subgoal) (D : Proof) (ps : List Proof) → AllProved W us (s ∷ []) ps → Shows s (first_or D ps)
  first_proves s D [] h = absurd h
  first_proves s D (P ∷ ps) h = h.0

  whole_proves : (h : Hints) → FitsHints W us h → (n : ℕ) (s : Subgoal) → Ok W s → (ms : List Made) → reduced W h n s ≡ Closed ms → Shows s (proof_of W h s ms)
  whole_proves h fit n s ok ms e =
      let t : Subgoal = inducted W h.induct s in
      let led = leads h.induct fit.induct s in
      let okt = led.ok ok in
      let ps : List Proof = proofs W ms [] in
      let all = reduce_proves W us sound (has_basics W sound) (goal_fits W sound) h.how fit.rules (each_fit W h.how.cases fit.cases) n
      (record { cases = 0; subgoal = start W h s } ∷ []) (with_uses_ok h.uses t fit.uses okt, tt) ms e in
      led.proves ok (without_uses h.uses (first_or (Hyp s.goal) ps)) (with_uses_proves h.uses t (first_or (Hyp s.goal) ps) fit.uses (first_proves (start W h s) (Hyp s.goal) ps all))

pub reductions_prove : ReductionsProve
reductions_prove W sound c f h fit n ms e =
    let ok : Ok W (subgoal c.hyps c.goal) = record { hyps = each_fit W c.hyps f.hyps; goal = (fits_decides W.functions c.goal).1 f.goal } in
    condition_proved W c (proof_of W h (subgoal c.hyps c.goal) ms) (whole_proves W sound c.universals h fit n (subgoal c.hyps c.goal) ok ms e)
