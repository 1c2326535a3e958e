-- At a recursive call the old function and the new one agree, by the theorem there.
use Rattle.std.proofs.Common.{◌≡◌, ℕ, zero, suc, Bool, true, false, cond, is_some, List, [], ◌∷◌, ◌++◌, length, map, slice_get, bytes_eq, Option, Some, None, refl, sym, ap, ◌∙◌, subst, arith}
use Rattle.lisp_data.specs.Values.{Name}
use Rattle.terms.specs.Definitions.{find}
use Rattle.terms.specs.Links.{conjunction}
use Rattle.terms.specs.Measures.{mentions, RecursiveCall, recursive_calls}
use Rattle.terms.specs.Sound.{Sound}
use Rattle.terms.specs.Terms.{Tm, Var, Call, Tms, Done, More, count, tms, substitute, substitute_all, by_args}
use Rattle.terms.specs.Worlds.{World, IsIn, Distinct, Each}
use Rattle.terms.specs.declared.definition.Definition.{Definition}
use Rattle.terms.proofs.Later.{has_basics}
use Rattle.terms.proofs.Lists.{each_join, join_to}
use Rattle.terms.proofs.Names.{same_name, name_self}
use Rattle.kernel.specs.Fitting.{fit_all}
use Rattle.kernel.specs.Sequents.{equation, implication}
use Rattle.kernel.proofs.Inversions.{fits_decides, fit_all_true}
use Rattle.proof_builders.specs.Derived.{gathered}
use Rattle.proof_builders.specs.Schemes.{hypothesis, scheme}
use Rattle.proof_builders.proofs.DerivedRules.{goal_fits, by_gathered}
use Rattle.proof_builders.proofs.Schemes.{no_calls}
use Rattle.reduction_proofs.specs.Proving.{Within, Proves}
use Rattle.reduction_proofs.specs.Trees.{Proof, Hyp, ImpliesOut}
use Rattle.reduction_proofs.proofs.Deduction.{wider, by_hyp, by_implies_out, condition_proved, proved_condition}
use Rattle.reduction_proofs.proofs.Induction.{folded_fits}
use Rattle.reduction_proofs.proofs.Members.{Fit, within_first, within_more, has_in, each_self, each_within, each_left, each_right}
use Rattle.reduction_proofs.proofs.Recursive.{has_distinct_formals, has_measure, is_recursive}
use Rattle.reduction_proofs.proofs.Shortcuts.{fits_equal}
use Rattle.isodata_tool.specs.Carried.{Mapped, AreMapped, all_forth, all_in_old, carried_over, old_to_new, stays_old}
use Rattle.isodata_tool.specs.Laws.{CallsAgree}
use Rattle.isodata_tool.specs.Proofs.{hypotheses, agreement, by_hypothesis}
use Rattle.isodata_tool.proofs.Calling.{IsCall, is_call}
use Rattle.isodata_tool.proofs.Fitted.{FitAll, call_fits, all_forth_fit}
use Rattle.isodata_tool.proofs.Substituted.{put_conjunction, put_old, put_all_forth, all_forth-count}

-- the formals at arguments are the arguments
args_back : (ys : List Name) (ts : Tms) (s : Name → Tm) → count ts ≡ length ys → Distinct ys → ((x : Name) → IsIn ys x → s x ≡ by_args ys ts x) → substitute_all s (tms (map Var ys)) ≡ ts
args_back [] Done s n d h = refl
args_back [] (More t ts) s n d h = absurd (omega (arith, n))
args_back (y ∷ ys) Done s n d h = absurd (omega (arith, n))
args_back (y ∷ ys) (More t ts) s n d h =
    let p : s y ≡ t = h y (in_here (bytes_eq y y) (name_self y)) ∙ ap (λ b. cond b t (by_args ys ts y)) (name_self y) in
    let q = args_back ys ts s (omega arith) d.1 (λ x i. h x (in_more (bytes_eq y x) x i) ∙ apart x i (bytes_eq y x) refl) in
    cc
  where
    in_here : (b : Bool) → b ≡ true → cond b (Unit {0}) (IsIn ys y)
    in_here true e = tt
    in_here false e = absurd (cc)

    in_more : (b : Bool) (x : Name) → IsIn ys x → cond b (Unit {0}) (IsIn ys x)
    in_more true x i = tt
    in_more false x i = i

    apart : (x : Name) → IsIn ys x → (b : Bool) → bytes_eq y x ≡ b → cond b t (by_args ys ts x) ≡ by_args ys ts x
    apart x i true e = absurd (d.0 (subst (IsIn ys) (sym (same_name y x e)) i))
    apart x i false e = refl

pub args_at : (ys : List Name) (ts : Tms) → count ts ≡ length ys → Distinct ys → substitute_all (by_args ys ts) (tms (map Var ys)) ≡ ts
args_at ys ts n d = args_back ys ts (by_args ys ts) n d (λ x i. refl)

-- what stands at a place of a list is within what the list is mapped to
pub mapped_within : (h : RecursiveCall → Tm) (cs : List RecursiveCall) (k : ℕ) (c : RecursiveCall) → slice_get cs k ≡ Some c → Within (map h cs) (h c)
mapped_within h [] k c e = absurd (cc)
mapped_within h (b ∷ bs) zero c e = let same : b ≡ c = cc in subst (λ x. Within (h b ∷ map h bs) (h x)) same (within_first (h b) (map h bs))
mapped_within h (b ∷ bs) (suc k) c e = within_more (h b) (map h bs) (h c) (mapped_within h bs k c e)

module _ (W : World) (sound : Sound W) (d : Definition) (found : find W.functions.defs d.name ≡ Some d) where
  module _ (g : Name) (ms : List Mapped) (are : AreMapped W d.formals ms) (new : find W.functions.defs g ≡ Some (carried_over d g ms)) where
    -- the theorem at a call's arguments
    theorem_at : (c : RecursiveCall) → IsCall W d c → substitute (by_args d.formals c.args) (old_to_new d g ms) ≡
        implication (conjunction (all_in_old ms (by_args d.formals c.args))) (equation (Call d.name c.args) (Call g (all_forth ms d.formals c.args)))
    theorem_at c is =
        let s : Name → Tm = by_args d.formals c.args in
        let vars : Tms = tms (map Var d.formals) in
        let p : substitute s (conjunction (all_in_old ms Var)) ≡ conjunction (all_in_old ms s) = put_conjunction s (all_in_old ms Var) ∙ ap conjunction (put_old s ms) in
        let q : substitute_all s vars ≡ c.args = args_at d.formals c.args is.number is.distinct in
        let r : substitute_all s (all_forth ms d.formals vars) ≡ all_forth ms d.formals c.args = put_all_forth s ms d.formals vars ∙ ap (all_forth ms d.formals) q in
        ap (λ t. implication t (equation (Call d.name (substitute_all s vars)) (Call g (substitute_all s (all_forth ms d.formals vars))))) p
        ∙ ap (λ ts. implication (conjunction (all_in_old ms s)) (equation (Call d.name ts) (Call g (substitute_all s (all_forth ms d.formals vars))))) q
        ∙ ap (λ ts. implication (conjunction (all_in_old ms s)) (equation (Call d.name c.args) (Call g ts))) r

    pub agrees : (c : RecursiveCall) → IsCall W d c → Within (scheme d (old_to_new d g ms)) (hypothesis d.formals (old_to_new d g ms) c) → (P : Proof) →
        Proves W [] (all_in_old ms Var ++ c.tests) (conjunction (all_in_old ms (by_args d.formals c.args))) P →
        Proves W [] (hypotheses d g ms ++ c.tests) (equation (Call d.name c.args) (Call g (all_forth ms d.formals c.args))) (by_hypothesis d g ms c P)
    agrees c is within P p =
        let theorem : Tm = old_to_new d g ms in
        let calls : List Tm = scheme d theorem in
        let olds : List Tm = all_in_old ms Var in
        let K : List Tm = hypotheses d g ms in
        let hs : List Tm = K ++ c.tests in
        let h : Tm = hypothesis d.formals theorem c in
        let there : Tm = conjunction (all_in_old ms (by_args d.formals c.args)) in
        let on_new : Tms = all_forth ms d.formals c.args in
        let same : Tm = equation (Call d.name c.args) (Call g on_new) in
        let tested : Tm = conjunction c.tests in
        let T : Proves W [] hs tested (gathered c.tests) = by_gathered W sound [] hs c.tests is.tests (each_right K c.tests) in
        let inside : Each (Within hs) K = each_left K c.tests in
        let old_inside : Each (Within hs) olds = each_within K hs olds inside (each_right calls olds) in
        let met : Proves W [] hs there P = wider W [] (olds ++ c.tests) hs there P (each_join (Within hs) olds c.tests old_inside (each_right K c.tests)) p in
        let assumed : Within hs h = has_in (Within hs) K h (has_in (Within K) calls h within (each_left calls olds)) inside in
        let form : h ≡ implication tested (implication there same) = ap (implication tested) (theorem_at c is) in
        let basics = has_basics W sound in
        let args_fit : FitAll W.functions c.args = fit_all_true W.functions c.args is.args in
        let fit_same : Fit W same =
        fits_equal W (Call d.name c.args) (Call g on_new) (call_fits W sound d.name d found c.args args_fit is.number)
        (call_fits W sound g (carried_over d g ms) new on_new (all_forth_fit W sound ms are.known d.formals c.args args_fit) (all_forth-count ms d.formals c.args ∙ is.number)) in
        let fit_there : Fit W there = (fits_decides W.functions there).1 (goal_fits W sound [] hs there P met) in
        let fit_tested : Fit W tested = (fits_decides W.functions tested).1 (goal_fits W sound [] hs tested (gathered c.tests) T) in
        let fit_inner : Fit W (implication there same) = folded_fits W [] basics (there ∷ []) same (fit_there, tt) fit_same in
        let fit_form : Fit W (implication tested (implication there same)) = folded_fits W [] basics (tested ∷ []) (implication there same) (fit_tested, tt) fit_inner in
        let fit_h : Fit W h = subst (Fit W) (sym form) fit_form in
        by_implies_out W [] hs there same (ImpliesOut (Hyp h) (gathered c.tests)) P
        (by_implies_out W [] hs tested (implication there same) (Hyp h) (gathered c.tests)
        (subst (λ x. Proves W [] hs x (Hyp h)) form (by_hyp W [] hs h fit_h assumed)) T) met

pub calls_agree : CallsAgree
calls_agree W sound d g ms both k c e P p =
    let s = stays_old d ms c in
    let L : List Tm = all_in_old ms Var ++ c.tests in
    let there : Tm = conjunction (all_in_old ms (by_args d.formals c.args)) in
    let among : Each (Within L) (s.hyps) = join_to (Within L) [] L tt (each_self L) in
    let q : Proves W [] L there P = wider W [] s.hyps L there P among (proved_condition W p.sequent s P p.concluded p.proved) in
    let is = is_call W sound d both.old k c e in
    let within = mapped_within (hypothesis d.formals (old_to_new d g ms)) (recursive_calls d.name [] d.body) k c e in
    condition_proved W (agreement d g ms c) (by_hypothesis d g ms c P) (agrees W sound d both.old g ms both.mapped both.new c is within P q)
