-- Where the two bodies are the same the two functions are.
use Rattle.std.proofs.Common.{◌≡◌, List, [], ◌∷◌, ◌++◌, map, Some, refl, ap, ◌∙◌, subst}
use Rattle.lisp_data.specs.Values.{Name}
use Rattle.terms.specs.BuiltIn.{no}
use Rattle.terms.specs.Definitions.{find}
use Rattle.terms.specs.Links.{at_variables, conjunction}
use Rattle.terms.specs.Sound.{Sound}
use Rattle.terms.specs.Terms.{Tm, Var, Tms, tms, substitute, by_args}
use Rattle.terms.specs.Worlds.{World, Fits, Each}
use Rattle.terms.specs.declared.definition.Definition.{Definition}
use Rattle.kernel.specs.Sequents.{equation, conditional}
use Rattle.kernel.proofs.Inversions.{fits_decides}
use Rattle.proof_builders.specs.Derived.{chained}
use Rattle.proof_builders.specs.Schemes.{scheme}
use Rattle.proof_builders.proofs.DerivedRules.{goal_fits, by_chained, symmetry_proves, cut_all_proves}
use Rattle.proof_builders.proofs.Schemes.{own, put_own}
use Rattle.reduction_proofs.specs.Derived.{turned}
use Rattle.reduction_proofs.specs.Proving.{Within, Proves}
use Rattle.reduction_proofs.specs.Trees.{Proof, Hyp, Unfold, IfTrue}
use Rattle.reduction_proofs.proofs.Deduction.{wider, by_hyp, by_if_true, by_unfold, by_implies_in, proved_condition}
use Rattle.reduction_proofs.proofs.Members.{Fit, within_first, each_self, each_more, each_right}
use Rattle.isodata_tool.specs.Carried.{Mapped, all_forth, all_in_old, all_in_new, called_body, new_body, carried_over, new_at_forth, old_to_new}
use Rattle.isodata_tool.specs.Laws.{HasBoth, UnfoldingProves}
use Rattle.isodata_tool.specs.Proofs.{there_and_back, undone_in, same_bodies, forth_in_new, stays_new, new_unfolded}
use Rattle.isodata_tool.proofs.Fitted.{call_fits, variables_fit, all_forth_fit, fits_without}
use Rattle.isodata_tool.proofs.Gathered.{conjunction_fits, all_old_fit, stays_new_proves}
use Rattle.isodata_tool.proofs.Substituted.{put_conjunction, put_forth_in_new, opened_body, all_forth-count, length-variables}
use Rattle.isodata_tool.proofs.Undone.{undone_in_proves}

module _ (W : World) (sound : Sound W) where
  -- a function at its formals is well formed
  pub own_fits : (f : Name) (d : Definition) → find W.functions.defs f ≡ Some d → Fit W (at_variables f d.formals)
  own_fits f d found = call_fits W sound f d found (tms (map Var d.formals)) (variables_fit W d.formals) (length-variables d.formals)

  -- a function at its formals is its body
  pub unfold_own : (us hs : List Tm) (f : Name) (d : Definition) → find W.functions.defs f ≡ Some d → Proves W us hs (equation (at_variables f d.formals) d.body) (Unfold (at_variables f d.formals))
  unfold_own us hs f d found =
      let ts : Tms = tms (map Var d.formals) in
      subst (λ b. Proves W us hs (equation (at_variables f d.formals) b) (Unfold (at_variables f d.formals))) (put_own (by_args d.formals ts) (own d.formals) d.body)
      (by_unfold W us hs f ts d found (own_fits f d found))

  module _ (d : Definition) (g : Name) (ms : List Mapped) (both : HasBoth W d g ms) where
    -- the new function's body, where the formals are on the new representation
    opened_form : substitute (by_args d.formals (all_forth ms d.formals (tms (map Var d.formals)))) (carried_over d g ms).body ≡ conditional (conjunction (forth_in_new ms)) (substitute (there_and_back ms Var) (called_body d g ms)) no
    opened_form =
        let s : Name → Tm = by_args d.formals (all_forth ms d.formals (tms (map Var d.formals))) in
        ap (λ t. conditional t (substitute s (new_body d g ms)) no) (put_conjunction s (all_in_new ms) ∙ ap conjunction (put_forth_in_new W d.formals ms both.mapped))
        ∙ ap (λ t. conditional (conjunction (forth_in_new ms)) t no) (opened_body W d g ms both.mapped)

    -- on the old representation the new function at the formals on the new one is the old body with its calls
    pub new_is_called : (us hs : List Tm) → Each (Within hs) (all_in_old ms Var) → Proves W us hs (equation (new_at_forth d g ms) (called_body d g ms)) (new_unfolded d g ms)
    new_is_called us hs olds =
        let e : Definition = carried_over d g ms in
        let vars : Tms = tms (map Var d.formals) in
        let ts : Tms = all_forth ms d.formals vars in
        let new : Tm = new_at_forth d g ms in
        let test : Tm = conjunction (forth_in_new ms) in
        let called : Tm = called_body d g ms in
        let inside : Tm = substitute (there_and_back ms Var) called in
        let known = both.mapped.known in
        let fit_new : Fit W new = call_fits W sound g e both.new ts (all_forth_fit W sound ms known d.formals vars (variables_fit W d.formals)) (all_forth-count ms d.formals vars ∙ length-variables d.formals) in
        let opened : Proves W us hs (equation new (conditional test inside no)) (Unfold new) =
        subst (λ b. Proves W us hs (equation new b) (Unfold new)) opened_form (by_unfold W us hs g ts e both.new fit_new) in
        let fits_inside : Fits W.functions inside = (goal_fits W sound us hs (equation new (conditional test inside no)) (Unfold new) opened).1.1.0.1.1.0 in
        let met : Proves W us hs test (stays_new ms) = stays_new_proves W sound ms known us hs olds in
        let chosen : Proves W us hs (equation (conditional test inside no) inside) (IfTrue (stays_new ms) inside no) =
        by_if_true W us hs test inside no (stays_new ms) ((fits_decides W.functions inside).1 fits_inside) refl met in
        let ended : Proves W us hs (equation inside called) (undone_in ms Var called) =
        subst (λ b. Proves W us hs (equation inside b) (undone_in ms Var called)) (put_own Var (λ x. refl) called)
        (undone_in_proves W sound d.formals ms both.mapped us hs Var (λ y. refl) olds called (fits_without W (there_and_back ms Var) called fits_inside)) in
        by_chained W us hs new (conditional test inside no) called (Unfold new) (chained (IfTrue (stays_new ms) inside no) (undone_in ms Var called)) opened
        (by_chained W us hs (conditional test inside no) inside called (IfTrue (stays_new ms) inside no) (undone_in ms Var called) chosen ended)

pub unfolding_proves : UnfoldingProves
unfolding_proves W sound d g ms both C p =
    let hs : List Tm = scheme d (old_to_new d g ms) in
    let olds : List Tm = all_in_old ms Var in
    let A : Tm = conjunction olds in
    let K : List Tm = A ∷ (hs ++ olds) in
    let old : Tm = at_variables d.name d.formals in
    let new : Tm = new_at_forth d g ms in
    let called : Tm = called_body d g ms in
    let Q : Proof = chained (Unfold old) (chained C (turned (new_unfolded d g ms) new)) in
    let fit_a : Fit W A = conjunction_fits W sound olds (all_old_fit W sound ms both.mapped.known Var (λ y. tt)) in
    let bodies : Proves W [] K (equation d.body called) C =
    wider W [] (hs ++ olds) K (equation d.body called) C (each_more A (hs ++ olds) (hs ++ olds) (each_self (hs ++ olds))) (proved_condition W p.sequent (same_bodies d g ms) C p.concluded p.proved) in
    let opened : Proves W [] K (equation new called) (new_unfolded d g ms) = new_is_called W sound d g ms both [] K (each_right (A ∷ hs) olds) in
    let same : Proves W [] K (equation old new) Q =
    by_chained W [] K old d.body new (Unfold old) (chained C (turned (new_unfolded d g ms) new)) (unfold_own W sound [] K d.name d both.old)
    (by_chained W [] K d.body called new C (turned (new_unfolded d g ms) new) bodies
    (symmetry_proves W sound [] K (new_unfolded d g ms) new called opened)) in
    by_implies_in W [] hs A (equation old new) _ fit_a
    (cut_all_proves W sound [] (A ∷ hs) olds (Hyp A) Q (equation old new) (by_hyp W [] (A ∷ hs) A fit_a (within_first A hs)) same)
