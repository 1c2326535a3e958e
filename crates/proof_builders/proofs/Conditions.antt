-- What the trees prove proves the conditions.
use Rattle.std.proofs.Common.{◌≡◌, true, [], List, Some, sym, ap, ◌∙◌, subst}
use Rattle.lisp_data.specs.Values.{Name}
use Rattle.terms.specs.Definitions.{find}
use Rattle.terms.specs.Sound.{Sound}
use Rattle.terms.specs.Terms.{Tm}
use Rattle.terms.specs.Worlds.{World, Fits, Each}
use Rattle.terms.specs.declared.definition.Definition.{Definition}
use Rattle.terms.specs.declared.sequent.Sequent.{Sequent}
use Rattle.terms.proofs.Lists.{each_to}
use Rattle.kernel.specs.Concludes.{concludes}
use Rattle.kernel.specs.Conclusion.{Conclusion}
use Rattle.kernel.specs.Sequents.{equation}
use Rattle.plans.specs.Proving.{proves}
use Rattle.reduction_proofs.specs.Proving.{Proves, ProvesCondition}
use Rattle.reduction_proofs.specs.Trees.{Proof}
use Rattle.reduction_proofs.proofs.Deduction.{condition_proved, proved_condition}
use Rattle.proof_builders.specs.Congruence.{Alike, Difference, differences, Finder, IsFound, congruence, proof_among, IsConcluded, is_proved_among}
use Rattle.proof_builders.specs.Schemes.{scheme, with_scheme, induct_on_calls}
use Rattle.proof_builders.proofs.Among.{among_proves}
use Rattle.proof_builders.proofs.Bodies.{body_congruence_proves}
use Rattle.proof_builders.proofs.Schemes.{induct_on_calls_proves}

module _ (W : World) (sound : Sound W) (k : Sequent) where
  pub by_congruence : (f : Name) (t u : Tm) → k.goal ≡ equation t u → Fits W.functions t → Fits W.functions u → Alike f t u →
      (cs : List Conclusion) → Each (IsConcluded W) cs → Each (λ d. is_proved_among cs k.universals k.hyps d ≡ true) (differences f [] t u) →
      (tests : List Tm) → tests ≡ [] → (P : Proof) → P ≡ congruence f (proof_among cs k.universals k.hyps) tests t u → ProvesCondition W k P
  by_congruence f t u g ft fu al cs hs ds tests none P e =
      let us : List Tm = k.universals in
      let F : Finder = proof_among cs us k.hyps in
      let found : Each (IsFound W us k.hyps F) (differences f [] t u) =
      each_to (λ d. is_proved_among cs us k.hyps d ≡ true) (IsFound W us k.hyps F) (λ d p. among_proves W us k.hyps cs hs d p) (differences f [] t u) ds in
      let whole : Proves W us k.hyps (equation t u) (congruence f F [] t u) = body_congruence_proves W sound us k.hyps f F t u ft fu al found in
      condition_proved W k P (subst (λ c. Proves W us k.hyps c P) (sym g) (subst (Proves W us k.hyps (equation t u)) (sym (e ∙ ap (λ ts. congruence f F ts t u) none)) whole))

  pub by_scheme : (d : Definition) → find W.functions.defs d.name ≡ Some d → k.hyps ≡ [] →
      (b : Conclusion) → b.world ≡ W → concludes b.world b.proof ≡ Some b.sequent → proves b.sequent (with_scheme d k) ≡ true →
      (P : Proof) → P ≡ induct_on_calls d b.proof → ProvesCondition W k P
  by_scheme d found none b here concluded proved P e =
      let us : List Tm = k.universals in
      let base : Proves W us (scheme d k.goal) k.goal b.proof =
      proved_condition W b.sequent (with_scheme d k) b.proof (subst (λ V. concludes V b.proof ≡ Some b.sequent) here concluded) proved in
      let whole : Proves W us [] k.goal (induct_on_calls d b.proof) = induct_on_calls_proves W sound us d found k.goal b.proof base in
      condition_proved W k P (subst (λ hs. Proves W us hs k.goal P) (sym none) (subst (Proves W us [] k.goal) (sym e) whole))

pub ruleset conditions = (by_congruence, by_scheme)
