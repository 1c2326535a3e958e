-- What the trees of a restriction's theorem prove, from proved sequents.
use Rattle.std.proofs.Common.{◌≡◌, ℕ, ◌<◌, true, false, List, [], ◌∷◌, length, map, get_or, slice_get, bytes_eq, Some, refl, sym, ap, ◌∙◌, subst}
use Rattle.lisp_data.specs.Values.{Name, Val}
use Rattle.terms.specs.BuiltIn.{if_else}
use Rattle.terms.specs.Formed.{FitsOver}
use Rattle.terms.specs.Later.{IsLater}
use Rattle.terms.specs.Links.{alone}
use Rattle.terms.specs.Measures.{RecursiveCall, recursive_calls, is_nested}
use Rattle.terms.specs.Sound.{Sound}
use Rattle.terms.specs.Terms.{Tm}
use Rattle.terms.specs.Worlds.{World, Fits, IsIn, Each, arity}
use Rattle.terms.specs.declared.definition.Definition.{Definition}
use Rattle.terms.specs.declared.sequent.Sequent.{Sequent}
use Rattle.terms.proofs.Extend.{over_map, body_fits}
use Rattle.measures.specs.Calls.{call_of}
use Rattle.measures.specs.declared.calls.RecursiveCall.{RecursiveCall as CallInCode}
use Rattle.kernel.specs.Concludes.{concludes}
use Rattle.kernel.specs.Conclusion.{Conclusion}
use Rattle.plans.specs.Proving.{ProvesAll, proves}
use Rattle.proof_builders.specs.Schemes.{scheme}
use Rattle.proof_builders.specs.Congruence.{Alike, differences, is_proved_among}
use Rattle.reduction_proofs.specs.Proving.{Proves, ProvesCondition}
use Rattle.reduction_proofs.specs.Trees.{Proof}
use Rattle.reduction_proofs.proofs.Deduction.{condition_proved}
use Rattle.restrict_tool.specs.Laws.{HasBoth, CallsAgree, BodiesAreAlike, UnfoldingProves}
use Rattle.restrict_tool.specs.Parts.{Agrees}
use Rattle.restrict_tool.specs.Proofs.{hypotheses, agreement, agreements, by_hypothesis, same_bodies, unfolded}
use Rattle.restrict_tool.specs.Restrictions.{new_body, restricted, same_where, stays_restricted}
use Rattle.tool_parts.proofs.Proving.{item-at, mapped-at, length-mapped, proof-at}

-- what a proved sequent proves
condition_by : (W : World) (k : Sequent) (m : Conclusion) → m.world ≡ W → concludes m.world m.proof ≡ Some m.sequent → proves m.sequent k ≡ true → ProvesCondition W k m.proof
condition_by W k m here concluded e =
    record { sequent = m.sequent; concluded = subst (λ V. concludes V m.proof ≡ Some m.sequent) here concluded; proved = e }

-- at a recursive call
pub agrees-by : (W : World) (d : Definition) (g : Name) (r : Tm) (c : RecursiveCall) → Agrees W d g r c →
    (m : Conclusion) → m.world ≡ W → concludes m.world m.proof ≡ Some m.sequent → proves m.sequent (stays_restricted d r c) ≡ true →
    (k : Sequent) → k ≡ agreement d g r c → (P Q : Proof) → P ≡ by_hypothesis d g r c Q → Q ≡ m.proof → ProvesCondition W k P
agrees-by W d g r c agrees m here concluded proved k k_is P Q P_is Q_is =
    subst (λ s. ProvesCondition W s P) (sym k_is)
    (subst (ProvesCondition W (agreement d g r c)) (sym (P_is ∙ ap (by_hypothesis d g r c) Q_is))
    (agrees m.proof (condition_by W (stays_restricted d r c) m here concluded proved)))

-- of that the bodies are the same
pub step-by : UnfoldingProves → (W : World) → Sound W → (d : Definition) (g : Name) (r : Tm) (u : Val) → HasBoth W d g r u →
    (b : Conclusion) → b.world ≡ W → concludes b.world b.proof ≡ Some b.sequent → proves b.sequent (same_bodies d g r) ≡ true →
    (us hs : List Tm) (goal t : Tm) → us ≡ [] → hs ≡ scheme d (same_where d g r) → goal ≡ t → t ≡ same_where d g r →
    (P Q : Proof) → P ≡ unfolded d g r u Q → Q ≡ b.proof → ProvesCondition W (record { universals = us; hyps = hs; goal = goal }) P
step-by law W sound d g r u both b here concluded proved us hs goal t us_is hs_is goal_is t_is P Q P_is Q_is =
    let whole : Proves W [] (scheme d (same_where d g r)) (same_where d g r) (unfolded d g r u b.proof) =
    law W sound d g r u both b.proof (condition_by W (same_bodies d g r) b here concluded proved) in
    let made : ProvesCondition W (record { universals = []; hyps = scheme d (same_where d g r); goal = same_where d g r }) (unfolded d g r u b.proof) =
    condition_proved W (record { universals = []; hyps = scheme d (same_where d g r); goal = same_where d g r }) (unfolded d g r u b.proof) whole in
    subst (ProvesCondition W (record { universals = us; hyps = hs; goal = goal })) (sym (P_is ∙ ap (unfolded d g r u) Q_is))
    (subst (λ (s : Sequent). ProvesCondition W s (unfolded d g r u b.proof)) (λ i. record { universals = sym us_is i; hyps = sym hs_is i; goal = sym (goal_is ∙ t_is) i }) made)

pub ruleset agreeing = (agrees-by, step-by)

-- a term over names fits
pub fits_over : (W : World) (xs : List Name) (t : Tm) → FitsOver W.functions xs t → Fits W.functions t
fits_over W xs t o = over_map (IsIn xs) (λ x. Unit {0}) (λ f k. arity W.functions f ≡ Some k) (λ f k. arity W.functions f ≡ Some k) (λ x i. tt) (λ f k a. a) t o

module _ (W : World) (sound : Sound W) (d : Definition) (g : Name) (r : Tm) (u : Val) (both : HasBoth W d g r u) where
  pub old_body_fits : Fits W.functions d.body
  old_body_fits = fits_over W d.formals d.body (body_fits W.functions sound.formed d.name d both.old)

  pub new_body_fits : Fits W.functions (new_body d g)
  new_body_fits = fits_over W d.formals (new_body d g) (body_fits W.functions sound.formed g (restricted d g r u) both.new).1.1.0

  -- the call of the code at a place
  pub agrees-at : CallsAgree → (cs : List CallInCode) → map call_of cs ≡ recursive_calls d.name [] d.body → (i : ℕ) (c : CallInCode) → i < length cs → c ≡ get_or cs i c → Agrees W d g r (call_of c)
  agrees-at law cs is i c h e =
      law W sound d g r u both i (call_of c)
      (ap (λ ks. slice_get ks i) (sym is) ∙ item-at (map call_of cs) i (call_of c) (subst (λ n. i < n) (sym (length-mapped call_of cs)) h) (mapped-at call_of cs i c h e))

-- the proof of the condition of a call
pub met-at : (W : World) (d : Definition) (r : Tm) (cs : List CallInCode) (ps : List Conclusion) → ProvesAll W (map (stays_restricted d r) (map call_of cs)) ps →
    (i : ℕ) (c : CallInCode) (p : Conclusion) → i < length cs → c ≡ get_or cs i c → p ≡ get_or ps i p → (p.world ≡ W) × (proves p.sequent (stays_restricted d r (call_of c)) ≡ true)
met-at W d r cs ps all i c p h e q =
    proof-at W (map (stays_restricted d r) (map call_of cs)) ps i (stays_restricted d r (call_of c)) p all
    (subst (λ n. i < n) (sym (length-mapped (stays_restricted d r) (map call_of cs) ∙ length-mapped call_of cs)) h)
    (mapped-at (stays_restricted d r) (map call_of cs) i (call_of c) (subst (λ n. i < n) (sym (length-mapped call_of cs)) h) (mapped-at call_of cs i c h e)) q

module _ (law : BodiesAreAlike) (W : World) (d : Definition) (g : Name) (r : Tm) (two : bytes_eq d.name g ≡ false) (flat : is_nested d.name d.body ≡ false) (n : Tm) (is : n ≡ new_body d g) where
  pub new_alike : Alike d.name d.body n
  new_alike = subst (Alike d.name d.body) (sym is) (law W d g r two flat).0

  -- what the agreements prove of the bodies
  pub differences-proved : (cs : List Conclusion) → ProvesAll W (agreements d g r) cs → (k : Sequent) → k ≡ same_bodies d g r → Each (λ e. is_proved_among cs k.universals k.hyps e ≡ true) (differences d.name [] d.body n)
  differences-proved cs all k k_is =
      subst (λ (s : Sequent). Each (λ e. is_proved_among cs s.universals s.hyps e ≡ true) (differences d.name [] d.body n)) (sym k_is)
      (subst (λ t. Each (λ e. is_proved_among cs [] (hypotheses d g r) e ≡ true) (differences d.name [] d.body t)) (sym is) ((law W d g r two flat).1 cs all))
