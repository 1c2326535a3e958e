-- The theorem from the old function to the new one, on the old representation, is the one from the new function to the old one.
use Rattle.std.proofs.Common.{◌≡◌, List, [], ◌∷◌, map, Option, Some, None, refl, ap, ◌∙◌, subst}
use Rattle.lisp_data.specs.Values.{Name}
use Rattle.terms.specs.Links.{alone, at_variables, conjunction}
use Rattle.terms.specs.Measures.{call1}
use Rattle.terms.specs.Sound.{Sound}
use Rattle.terms.specs.Substitution.{by_pairs}
use Rattle.terms.specs.Terms.{Tm, Var, Call, Tms, tms, substitute, substitute_all}
use Rattle.terms.specs.Worlds.{World, Each}
use Rattle.terms.specs.declared.definition.Definition.{Definition}
use Rattle.terms.proofs.Lists.{each_of_map}
use Rattle.worlds.specs.Lookups.{find_iso}
use Rattle.kernel.specs.Sequents.{equation, implication}
use Rattle.proof_builders.specs.Congruence.{each_replaced}
use Rattle.proof_builders.specs.Derived.{gathered}
use Rattle.proof_builders.proofs.DerivedRules.{symmetry_proves, cut_all_proves}
use Rattle.reduction_proofs.specs.Derived.{turned}
use Rattle.reduction_proofs.specs.Proving.{Within, Proves}
use Rattle.reduction_proofs.specs.Trees.{Proof, Hyp, Substitute, ImpliesOut}
use Rattle.reduction_proofs.proofs.Deduction.{by_hyp, by_refl, by_instance, by_implies_in, by_implies_out, condition_proved, proved_condition}
use Rattle.reduction_proofs.proofs.Members.{within_first, each_right}
use Rattle.isodata_tool.specs.Carried.{Mapped, find_map, back_by, forth_by, with_back, all_forth, all_in_old, all_in_new, old_at_back, new_to_old, old_to_new}
use Rattle.isodata_tool.specs.Laws.{HasBoth, TurningProves}
use Rattle.isodata_tool.specs.Proofs.{cut_each, backs, back_in_old, each_back_in_old, redone, turned_round}
use Rattle.isodata_tool.proofs.Fitted.{known_at}
use Rattle.isodata_tool.proofs.Gathered.{backs_fit, conjunction_fits, all_new_fit, all_back_prove}
use Rattle.isodata_tool.proofs.Isos.{redone_proves}
use Rattle.isodata_tool.proofs.Replaced.{EachEqual, by_each_replaced}
use Rattle.isodata_tool.proofs.Substituted.{put_all_alike, put_conjunction, put_all_forth, put_variables, put_back_in_old, found_formal, found_among, backs_at}

module _ (W : World) (sound : Sound W) (d : Definition) (g : Name) (ms : List Mapped) (both : HasBoth W d g ms) where
  known : Each (λ (e : Mapped). find_iso W.isos e.iso.name ≡ Some e.iso) ms
  known = both.mapped.known

  -- the formals under `back`
  backs_there : substitute_all (by_pairs (backs ms)) (tms (map Var d.formals)) ≡ tms (map (with_back ms) d.formals)
  backs_there = put_all_alike (by_pairs (backs ms)) (with_back ms) (backs_at ms) (tms (map Var d.formals)) ∙ put_variables (with_back ms) d.formals

  -- the theorem on the old representation
  theorem_there : substitute (by_pairs (backs ms)) (old_to_new d g ms) ≡
      implication (conjunction (back_in_old ms)) (equation (old_at_back d ms) (Call g (all_forth ms d.formals (tms (map (with_back ms) d.formals)))))
  theorem_there =
      let s : Name → Tm = by_pairs (backs ms) in
      let vars : Tms = tms (map Var d.formals) in
      let there : Tms = tms (map (with_back ms) d.formals) in
      let p : substitute s (conjunction (all_in_old ms Var)) ≡ conjunction (back_in_old ms) = put_conjunction s (all_in_old ms Var) ∙ ap conjunction (put_back_in_old W d.formals ms both.mapped) in
      let r : substitute_all s (all_forth ms d.formals vars) ≡ all_forth ms d.formals there = put_all_forth s ms d.formals vars ∙ ap (all_forth ms d.formals) backs_there in
      ap (λ t. implication t (equation (Call d.name (substitute_all s vars)) (Call g (substitute_all s (all_forth ms d.formals vars))))) p
      ∙ ap (λ ts. implication (conjunction (back_in_old ms)) (equation (Call d.name ts) (Call g (substitute_all s (all_forth ms d.formals vars))))) backs_there
      ∙ ap (λ ts. implication (conjunction (back_in_old ms)) (equation (old_at_back d ms) (Call g ts))) r

  module _ (us hs : List Tm) (news : Each (Within hs) (all_in_new ms)) where
    one_redone : (x : Name) (o : Option Mapped) → find_map ms x ≡ o → Proves W us hs (equation (forth_by o (back_by o (Var x))) (Var x)) (redone o x)
    one_redone x None q = by_refl W us hs (Var x) refl
    one_redone x (Some e) q =
        redone_proves W sound e.iso (known_at W sound ms known x e q) us hs (Var x) refl
        (subst (λ z. Within hs (call1 e.iso.newp (Var z))) (found_formal ms x e q)
        (found_among (λ (k : Mapped). Within hs (call1 k.iso.newp (Var k.formal))) ms x e (each_of_map (Within hs) (λ (k : Mapped). call1 k.iso.newp (Var k.formal)) ms news) q))

    -- each variable comes from the old representation
    pub all_redone : (xs : List Name) → EachEqual W us hs (all_forth ms xs (tms (map (with_back ms) xs))) (tms (map Var xs)) (map (λ x. redone (find_map ms x) x) xs)
    all_redone [] = tt
    all_redone (x ∷ xs) = (one_redone x (find_map ms x) refl, all_redone xs)

pub turning_proves : TurningProves
turning_proves W sound d g ms both N p =
    let news : List Tm = all_in_new ms in
    let A : Tm = conjunction news in
    let K : List Tm = A ∷ news in
    let T : Tm = conjunction (back_in_old ms) in
    let old : Tm = old_at_back d ms in
    let new : Tm = at_variables g d.formals in
    let vars : Tms = tms (map Var d.formals) in
    let forthed : Tms = all_forth ms d.formals (tms (map (with_back ms) d.formals)) in
    let ps : List Proof = map (λ x. redone (find_map ms x) x) d.formals in
    let B : Proof = cut_each (each_back_in_old ms) (gathered (back_in_old ms)) in
    let I : Proof = ImpliesOut (Substitute N (backs ms)) B in
    let R : Proof = each_replaced 1 ps I in
    let inside : Each (Within K) news = each_right (A ∷ []) news in
    let fit_a = conjunction_fits W sound news (all_new_fit W sound ms both.mapped.known) in
    let n : Proves W [] [] (old_to_new d g ms) N = proved_condition W p.sequent (alone (old_to_new d g ms)) N p.concluded p.proved in
    let instance : Proves W [] K (implication T (equation old (Call g forthed))) (Substitute N (backs ms)) =
    subst (λ t. Proves W [] K t (Substitute N (backs ms))) (theorem_there W sound d g ms both) (by_instance W [] K (old_to_new d g ms) (backs ms) N n (backs_fit W sound ms both.mapped.known)) in
    let there : Proves W [] K (equation old (Call g forthed)) I =
    by_implies_out W [] K T (equation old (Call g forthed)) (Substitute N (backs ms)) B instance (all_back_prove W sound ms both.mapped.known [] K inside) in
    let replaced : Proves W [] K (equation old new) R = by_each_replaced W [] K old g forthed vars ps I (all_redone W sound d g ms both [] K inside d.formals) there in
    let same : Proves W [] K (equation new old) (turned R old) = symmetry_proves W sound [] K R old new replaced in
    condition_proved W (alone (new_to_old d g ms)) (turned_round d g ms N)
    (by_implies_in W [] [] A (equation new old) _ fit_a
    (cut_all_proves W sound [] (A ∷ []) news (Hyp A) (turned R old) (equation new old) (by_hyp W [] (A ∷ []) A fit_a (within_first A [])) same))
