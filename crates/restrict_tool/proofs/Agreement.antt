-- At a recursive call the two functions agree, by the theorem there.
use Rattle.std.proofs.Common.{◌≡◌, ℕ, zero, suc, Bool, true, false, cond, is_some, List, [], ◌∷◌, ◌++◌, length, map, slice_get, bytes_eq, Option, Some, None, refl, sym, ap, ◌∙◌, subst, arith}
use Rattle.lisp_data.specs.Values.{Name, Val}
use Rattle.terms.specs.Definitions.{find}
use Rattle.terms.specs.Measures.{mentions, RecursiveCall, recursive_calls}
use Rattle.terms.specs.Sound.{Sound}
use Rattle.terms.specs.Terms.{Tm, Var, Call, Tms, Done, More, count, tms, substitute, substitute_all, by_args}
use Rattle.terms.specs.Worlds.{World, IsIn, Distinct, Each}
use Rattle.terms.specs.declared.definition.Definition.{Definition}
use Rattle.terms.proofs.Later.{has_basics}
use Rattle.terms.proofs.Lists.{join_to}
use Rattle.terms.proofs.Meaning.{arity_defined}
use Rattle.terms.proofs.Names.{same_name, name_self}
use Rattle.kernel.specs.Fitting.{fit_all}
use Rattle.kernel.specs.Sequents.{equation, implication}
use Rattle.kernel.proofs.Inversions.{fits_decides, fit_all_true}
use Rattle.hints.specs.Start.{conjunction}
use Rattle.proof_builders.specs.Derived.{gathered}
use Rattle.proof_builders.specs.Schemes.{hypothesis, scheme}
use Rattle.proof_builders.proofs.DerivedRules.{goal_fits, by_gathered}
use Rattle.proof_builders.proofs.Schemes.{no_calls}
use Rattle.reduction_proofs.specs.Proving.{Within, Proves}
use Rattle.reduction_proofs.specs.Trees.{Proof, Hyp, ImpliesOut}
use Rattle.reduction_proofs.proofs.Deduction.{wider, by_hyp, by_implies_out, condition_proved, proved_condition}
use Rattle.reduction_proofs.proofs.Induction.{folded_fits}
use Rattle.reduction_proofs.proofs.Members.{Fit, within_first, within_more, has_in, each_left, each_right}
use Rattle.reduction_proofs.proofs.Recursive.{has_distinct_formals, has_measure, is_recursive}
use Rattle.reduction_proofs.proofs.Shortcuts.{fits_equal}
use Rattle.restrict_tool.specs.Laws.{CallsAgree}
use Rattle.restrict_tool.specs.Proofs.{hypotheses, agreement, by_hypothesis}
use Rattle.restrict_tool.specs.Restrictions.{restricted, same_where, at_call, stays_restricted}

-- the formals at arguments are the arguments
args_back : (ys : List Name) (ts : Tms) (s : Name → Tm) → count ts ≡ length ys → Distinct ys → ((x : Name) → IsIn ys x → s x ≡ by_args ys ts x) → substitute_all s (tms (map Var ys)) ≡ ts
args_back [] Done s n d h = refl
args_back [] (More t ts) s n d h = absurd (omega (arith, n))
args_back (y ∷ ys) Done s n d h = absurd (omega (arith, n))
args_back (y ∷ ys) (More t ts) s n d h =
    let p : s y ≡ t = h y (in_here (bytes_eq y y) (name_self y)) ∙ ap (λ b. cond b t (by_args ys ts y)) (name_self y) in
    let q = args_back ys ts s (omega arith) d.1 (λ x i. h x (in_more (bytes_eq y x) x i) ∙ apart x i (bytes_eq y x) refl) in
    cc
  where
    in_here : (b : Bool) → b ≡ true → cond b (Unit {0}) (IsIn ys y)
    in_here true e = tt
    in_here false e = absurd (cc)

    in_more : (b : Bool) (x : Name) → IsIn ys x → cond b (Unit {0}) (IsIn ys x)
    in_more true x i = tt
    in_more false x i = i

    apart : (x : Name) → IsIn ys x → (b : Bool) → bytes_eq y x ≡ b → cond b t (by_args ys ts x) ≡ by_args ys ts x
    apart x i true e = absurd (d.0 (subst (IsIn ys) (sym (same_name y x e)) i))
    apart x i false e = refl

pub args_at : (ys : List Name) (ts : Tms) → count ts ≡ length ys → Distinct ys → substitute_all (by_args ys ts) (tms (map Var ys)) ≡ ts
args_at ys ts n d = args_back ys ts (by_args ys ts) n d (λ x i. refl)

-- what stands at a place of a list is within what the list is mapped to
pub mapped_within : (h : RecursiveCall → Tm) (cs : List RecursiveCall) (k : ℕ) (c : RecursiveCall) → slice_get cs k ≡ Some c → Within (map h cs) (h c)
mapped_within h [] k c e = absurd (cc)
mapped_within h (b ∷ bs) zero c e = let same : b ≡ c = cc in subst (λ x. Within (h b ∷ map h bs) (h x)) same (within_first (h b) (map h bs))
mapped_within h (b ∷ bs) (suc k) c e = within_more (h b) (map h bs) (h c) (mapped_within h bs k c e)

-- what holds of each item holds of the one at a place
at_place : (P : RecursiveCall → Type 0) (cs : List RecursiveCall) (k : ℕ) (c : RecursiveCall) → Each P cs → slice_get cs k ≡ Some c → P c
at_place P [] k c h e = absurd (cc)
at_place P (b ∷ bs) zero c h e = let same : b ≡ c = cc in subst P same h.0
at_place P (b ∷ bs) (suc k) c h e = at_place P bs k c h.1 e

-- the terms of a recursive call are well formed, and it has an argument for each formal
pub record IsCall (W : World) (d : Definition) (c : RecursiveCall) : Type 0 where
  pub distinct : Distinct d.formals
  pub tests : Each (Fit W) c.tests
  pub args : fit_all W.functions c.args ≡ true
  pub number : count c.args ≡ length d.formals

module _ (W : World) (sound : Sound W) (d : Definition) (found : find W.functions.defs d.name ≡ Some d) where
  -- a definition with a recursive call is recursive
  pub is_call : (k : ℕ) (c : RecursiveCall) → slice_get (recursive_calls d.name [] d.body) k ≡ Some c → IsCall W d c
  is_call k c e = by_test (mentions d.name d.body) refl
    where
      with_measure : mentions d.name d.body ≡ true → (o : Option Tm) → d.measure ≡ o → is_some o ≡ true → IsCall W d c
      with_measure q None m i = absurd (cc)
      with_measure q (Some t) m i =
          let h = at_place _ (recursive_calls d.name [] d.body) k c (is_recursive W sound d.name d found q t m).calls e in
          record { distinct = has_distinct_formals W sound d.name d found q; tests = h.0; args = h.1; number = h.2 }

      by_test : (b : Bool) → mentions d.name d.body ≡ b → IsCall W d c
      by_test true q = with_measure q d.measure refl (has_measure W sound d.name d found q)
      by_test false q = let none : slice_get [] k ≡ Some c = subst (λ cs. slice_get cs k ≡ Some c) (no_calls d.name d.body [] q) e in absurd (cc)

  module _ (g : Name) (r : Tm) (u : Val) (new : find W.functions.defs g ≡ Some (restricted d g r u)) where
    call_fits : (f : Name) (e : Definition) → find W.functions.defs f ≡ Some e → (ts : Tms) → fit_all W.functions ts ≡ true → count ts ≡ length e.formals → Fit W (Call f ts)
    call_fits f e q ts h n = (fits_decides W.functions (Call f ts)).1 (arity_defined W.functions sound.formed f e q ∙ ap Some (sym n), fit_all_true W.functions ts h)

    -- the theorem at a call's arguments
    theorem_at : (c : RecursiveCall) → IsCall W d c → substitute (by_args d.formals c.args) (same_where d g r) ≡ implication (at_call d r c) (equation (Call d.name c.args) (Call g c.args))
    theorem_at c is = ap (λ ts. implication (at_call d r c) (equation (Call d.name ts) (Call g ts))) (args_at d.formals c.args is.number is.distinct)

    pub agrees : (c : RecursiveCall) → IsCall W d c → Within (scheme d (same_where d g r)) (hypothesis d.formals (same_where d g r) c) → (P : Proof) → Proves W [] (r ∷ c.tests) (at_call d r c) P →
        Proves W [] (hypotheses d g r ++ c.tests) (equation (Call d.name c.args) (Call g c.args)) (by_hypothesis d g r c P)
    agrees c is within P p =
        let theorem : Tm = same_where d g r in
        let calls : List Tm = scheme d theorem in
        let K : List Tm = hypotheses d g r in
        let hs : List Tm = K ++ c.tests in
        let h : Tm = hypothesis d.formals theorem c in
        let there : Tm = at_call d r c in
        let same : Tm = equation (Call d.name c.args) (Call g c.args) in
        let tested : Tm = conjunction c.tests in
        let T : Proves W [] hs tested (gathered c.tests) = by_gathered W sound [] hs c.tests is.tests (each_right K c.tests) in
        let inside : Each (Within hs) K = each_left K c.tests in
        let ends : Within K r = (each_right calls (r ∷ [])).0 in
        let restricts : Within hs r = has_in (Within hs) K r ends inside in
        let met : Proves W [] hs there P = wider W [] (r ∷ c.tests) hs there P (restricts, each_right K c.tests) p in
        let assumed : Within hs h = has_in (Within hs) K h (has_in (Within K) calls h within (each_left calls (r ∷ []))) inside in
        let form : h ≡ implication tested (implication there same) = ap (implication tested) (theorem_at c is) in
        let basics = has_basics W sound in
        let fit_same : Fit W same = fits_equal W (Call d.name c.args) (Call g c.args) (call_fits d.name d found c.args is.args is.number) (call_fits g (restricted d g r u) new c.args is.args is.number) in
        let fit_there : Fit W there = (fits_decides W.functions there).1 (goal_fits W sound [] hs there P met) in
        let fit_tested : Fit W tested = (fits_decides W.functions tested).1 (goal_fits W sound [] hs tested (gathered c.tests) T) in
        let fit_inner : Fit W (implication there same) = folded_fits W [] basics (there ∷ []) same (fit_there, tt) fit_same in
        let fit_form : Fit W (implication tested (implication there same)) = folded_fits W [] basics (tested ∷ []) (implication there same) (fit_tested, tt) fit_inner in
        let fit_h : Fit W h = subst (Fit W) (sym form) fit_form in
        by_implies_out W [] hs there same (ImpliesOut (Hyp h) (gathered c.tests)) P
        (by_implies_out W [] hs tested (implication there same) (Hyp h) (gathered c.tests)
        (subst (λ x. Proves W [] hs x (Hyp h)) form (by_hyp W [] hs h fit_h assumed)) T) met

pub calls_agree : CallsAgree
calls_agree W sound d g r u both k c e P p =
    let s = stays_restricted d r c in
    let among : Each (Within (r ∷ c.tests)) (s.hyps) = join_to (Within (r ∷ c.tests)) [] (r ∷ c.tests) tt (within_first r c.tests, each_right (r ∷ []) c.tests) in
    let q : Proves W [] (r ∷ c.tests) (at_call d r c) P = wider W [] s.hyps (r ∷ c.tests) (at_call d r c) P among (proved_condition W p.sequent s P p.concluded p.proved) in
    let is = is_call W sound d both.old k c e in
    let within = mapped_within (hypothesis d.formals (same_where d g r)) (recursive_calls d.name [] d.body) k c e in
    condition_proved W (agreement d g r c) (by_hypothesis d g r c P) (agrees W sound d both.old g r u both.new c is within P q)
