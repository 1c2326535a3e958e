-- Where the two bodies are the same the two functions are.
use Rattle.std.proofs.Common.{◌≡◌, suc, List, [], ◌∷◌, ◌++◌, length, map, Some, refl, sym, ap, ◌∙◌, subst}
use Rattle.lisp_data.specs.Values.{Name}
use Rattle.terms.specs.Definitions.{find}
use Rattle.terms.specs.Links.{at_variables}
use Rattle.terms.specs.Sound.{Sound}
use Rattle.terms.specs.Terms.{Tm, Var, Quote, Tms, tms, OverAll, by_args}
use Rattle.terms.specs.Worlds.{World, IsIn, arity, Fits, Each}
use Rattle.terms.specs.declared.definition.Definition.{Definition}
use Rattle.terms.proofs.Args.{count-tms}
use Rattle.terms.proofs.Below.{Any}
use Rattle.terms.proofs.Extend.{over_map, body_fits}
use Rattle.terms.proofs.Lists.{each_join}
use Rattle.terms.proofs.Meaning.{arity_defined}
use Rattle.kernel.specs.Sequents.{equation}
use Rattle.kernel.proofs.Inversions.{fits_decides}
use Rattle.proof_builders.specs.Derived.{chained}
use Rattle.proof_builders.specs.Schemes.{scheme}
use Rattle.proof_builders.proofs.DerivedRules.{by_chained, symmetry_proves}
use Rattle.proof_builders.proofs.Schemes.{own, put_own}
use Rattle.reduction_proofs.specs.Derived.{turned}
use Rattle.reduction_proofs.specs.Proving.{Within, Proves}
use Rattle.reduction_proofs.specs.Trees.{Hyp, Unfold, IfTrue}
use Rattle.reduction_proofs.proofs.Deduction.{wider, by_hyp, by_if_true, by_unfold, by_implies_in, proved_condition}
use Rattle.reduction_proofs.proofs.Members.{Fit, within_first, each_self, each_more}
use Rattle.restrict_tool.specs.Laws.{UnfoldingProves}
use Rattle.restrict_tool.specs.Proofs.{hypotheses, same_bodies, new_unfolded}
use Rattle.restrict_tool.specs.Restrictions.{new_body, restricted, same_where}

length-map : (xs : List Name) → length (map Var xs) ≡ length xs
length-map [] = refl
length-map (x ∷ xs) = ap suc (length-map xs)

module _ (W : World) (sound : Sound W) where
  -- a variable fits
  variables_fit : (xs : List Name) → OverAll Any (λ f k. arity W.functions f ≡ Some k) (tms (map Var xs))
  variables_fit [] = tt
  variables_fit (x ∷ xs) = (tt, variables_fit xs)

  -- a function at its formals is well formed
  pub own_fits : (f : Name) (d : Definition) → find W.functions.defs f ≡ Some d → Fit W (at_variables f d.formals)
  own_fits f d found =
      (fits_decides W.functions (at_variables f d.formals)).1
      (arity_defined W.functions sound.formed f d found ∙ ap Some (sym (count-tms (map Var d.formals) ∙ length-map d.formals)), variables_fit d.formals)

  pub body_fit : (f : Name) (d : Definition) → find W.functions.defs f ≡ Some d → Fit W d.body
  body_fit f d found =
      (fits_decides W.functions d.body).1
      (over_map (IsIn d.formals) Any (λ h k. arity W.functions h ≡ Some k) (λ h k. arity W.functions h ≡ Some k) (λ x p. tt) (λ h k q. q) d.body (body_fits W.functions sound.formed f d found))

  -- a function at its formals is its body
  pub unfold_own : (us hs : List Tm) (f : Name) (d : Definition) → find W.functions.defs f ≡ Some d → Proves W us hs (equation (at_variables f d.formals) d.body) (Unfold (at_variables f d.formals))
  unfold_own us hs f d found =
      let ts : Tms = tms (map Var d.formals) in
      subst (λ b. Proves W us hs (equation (at_variables f d.formals) b) (Unfold (at_variables f d.formals))) (put_own (by_args d.formals ts) (own d.formals) d.body)
      (by_unfold W us hs f ts d found (own_fits f d found))

pub unfolding_proves : UnfoldingProves
unfolding_proves W sound d g r u both C p =
    let hs : List Tm = scheme d (same_where d g r) in
    let K : List Tm = r ∷ hs in
    let c = same_bodies d g r in
    let e : Definition = restricted d g r u in
    let old : Tm = at_variables d.name d.formals in
    let new : Tm = at_variables g d.formals in
    let inside : Tm = new_body d g in
    let fit_r : Fit W r = (fits_decides W.functions r).1 (over_map (IsIn d.formals) Any (λ h k. arity W.functions h ≡ Some k) (λ h k. arity W.functions h ≡ Some k) (λ x q. tt) (λ h k q. q) r both.restriction) in
    let fits_new : Fits W.functions e.body = (fits_decides W.functions e.body).0 (body_fit W sound g e both.new) in
    let fit_inside : Fit W inside = (fits_decides W.functions inside).1 fits_new.1.1.0 in
    let met : Proves W [] K r (Hyp r) = by_hyp W [] K r fit_r (within_first r hs) in
    let among : Each (Within K) (hs ++ r ∷ []) = each_join (Within K) hs (r ∷ []) (each_more r hs hs (each_self hs)) (within_first r hs, tt) in
    let bodies : Proves W [] K (equation d.body inside) C = wider W [] (hypotheses d g r) K (equation d.body inside) C among (proved_condition W p.sequent c C p.concluded p.proved) in
    let opened : Proves W [] K (equation new inside) (new_unfolded d g r u) =
    by_chained W [] K new e.body inside (Unfold new) (IfTrue (Hyp r) inside (Quote u)) (unfold_own W sound [] K g e both.new) (by_if_true W [] K r inside (Quote u) (Hyp r) fit_inside refl met) in
    by_implies_in W [] hs r (equation old new) (chained (Unfold old) (chained C (turned (new_unfolded d g r u) new))) fit_r
    (by_chained W [] K old d.body new (Unfold old) (chained C (turned (new_unfolded d g r u) new)) (unfold_own W sound [] K d.name d both.old)
    (by_chained W [] K d.body inside new C (turned (new_unfolded d g r u) new) bodies
    (symmetry_proves W sound [] K (new_unfolded d g r u) new inside opened)))
