-- What the trees of the theorems and of what the new function owes prove, from proved sequents.
use Rattle.std.proofs.Common.{◌≡◌, ℕ, suc, ◌<◌, true, List, [], ◌∷◌, length, map, get_or, slice_get, Some, sym, ap, ◌∙◌, subst}
use Rattle.lisp_data.specs.Values.{Name}
use Rattle.terms.specs.Formed.{FitsOver}
use Rattle.terms.specs.Links.{alone}
use Rattle.terms.specs.Measures.{RecursiveCall, recursive_calls}
use Rattle.terms.specs.Sound.{Sound}
use Rattle.terms.specs.Terms.{Tm}
use Rattle.terms.specs.Worlds.{World, Fits, IsIn, Each, arity}
use Rattle.terms.specs.declared.definition.Definition.{Definition}
use Rattle.terms.specs.declared.sequent.Sequent.{Sequent}
use Rattle.terms.proofs.Extend.{over_map, body_fits}
use Rattle.measures.specs.Calls.{call_of}
use Rattle.measures.specs.declared.calls.RecursiveCall.{RecursiveCall as CallInCode}
use Rattle.kernel.specs.Concludes.{concludes}
use Rattle.kernel.specs.Conclusion.{Conclusion}
use Rattle.plans.specs.Proving.{ProvesAll, proves}
use Rattle.proof_builders.specs.Congruence.{Alike, differences, is_proved_among}
use Rattle.proof_builders.specs.Schemes.{scheme}
use Rattle.reduction_proofs.specs.Proving.{Proves, ProvesCondition}
use Rattle.reduction_proofs.specs.Trees.{Proof}
use Rattle.reduction_proofs.proofs.Deduction.{condition_proved}
use Rattle.isodata_tool.specs.Carried.{Mapped, called_body, with_back, carried_over, new_body, new_to_old, old_to_new, stays_old}
use Rattle.isodata_tool.specs.Laws.{HasBoth, Agrees, CallsAgree, BodiesAreAlike, UnfoldingProves, TurningProves, FallsAt}
use Rattle.isodata_tool.specs.Proofs.{hypotheses, agreement, agreements, by_hypothesis, same_bodies, unfolded, turned_round, falls_there}
use Rattle.isodata_tool.proofs.Fitted.{fits_without}
use Rattle.tool_parts.proofs.Proving.{item-at, mapped-at, length-mapped, proof-at}

-- what a proved sequent proves
condition_by : (W : World) (k : Sequent) (m : Conclusion) → m.world ≡ W → concludes m.world m.proof ≡ Some m.sequent → proves m.sequent k ≡ true → ProvesCondition W k m.proof
condition_by W k m here concluded e =
    record { sequent = m.sequent; concluded = subst (λ V. concludes V m.proof ≡ Some m.sequent) here concluded; proved = e }

-- at a recursive call
pub agrees-by : (W : World) (d : Definition) (g : Name) (ms : List Mapped) (c : RecursiveCall) → Agrees W d g ms c →
    (m : Conclusion) → m.world ≡ W → concludes m.world m.proof ≡ Some m.sequent → proves m.sequent (stays_old d ms c) ≡ true →
    (k : Sequent) → k ≡ agreement d g ms c → (P Q : Proof) → P ≡ by_hypothesis d g ms c Q → Q ≡ m.proof → ProvesCondition W k P
agrees-by W d g ms c agrees m here concluded proved k k_is P Q P_is Q_is =
    subst (λ s. ProvesCondition W s P) (sym k_is)
    (subst (ProvesCondition W (agreement d g ms c)) (sym (P_is ∙ ap (by_hypothesis d g ms c) Q_is))
    (agrees m.proof (condition_by W (stays_old d ms c) m here concluded proved)))

-- of that the bodies are the same
pub step-by : UnfoldingProves → (W : World) → Sound W → (d : Definition) (g : Name) (ms : List Mapped) → HasBoth W d g ms →
    (b : Conclusion) → b.world ≡ W → concludes b.world b.proof ≡ Some b.sequent → proves b.sequent (same_bodies d g ms) ≡ true →
    (us hs : List Tm) (goal t : Tm) → us ≡ [] → hs ≡ scheme d (old_to_new d g ms) → goal ≡ t → t ≡ old_to_new d g ms →
    (P Q : Proof) → P ≡ unfolded d g ms Q → Q ≡ b.proof → ProvesCondition W (record { universals = us; hyps = hs; goal = goal }) P
step-by law W sound d g ms both b here concluded proved us hs goal t us_is hs_is goal_is t_is P Q P_is Q_is =
    let whole : Proves W [] (scheme d (old_to_new d g ms)) (old_to_new d g ms) (unfolded d g ms b.proof) =
    law W sound d g ms both b.proof (condition_by W (same_bodies d g ms) b here concluded proved) in
    let made : ProvesCondition W (record { universals = []; hyps = scheme d (old_to_new d g ms); goal = old_to_new d g ms }) (unfolded d g ms b.proof) =
    condition_proved W (record { universals = []; hyps = scheme d (old_to_new d g ms); goal = old_to_new d g ms }) (unfolded d g ms b.proof) whole in
    subst (ProvesCondition W (record { universals = us; hyps = hs; goal = goal })) (sym (P_is ∙ ap (unfolded d g ms) Q_is))
    (subst (λ (s : Sequent). ProvesCondition W s (unfolded d g ms b.proof)) (λ i. record { universals = sym us_is i; hyps = sym hs_is i; goal = sym (goal_is ∙ t_is) i }) made)

-- of the theorem from the old function to the new one
pub turns-by : TurningProves → (W : World) → Sound W → (d : Definition) (g : Name) (ms : List Mapped) → HasBoth W d g ms →
    (n : Conclusion) → n.world ≡ W → concludes n.world n.proof ≡ Some n.sequent → proves n.sequent (alone (old_to_new d g ms)) ≡ true →
    (k : Sequent) → k ≡ alone (new_to_old d g ms) → (P Q : Proof) → P ≡ turned_round d g ms Q → Q ≡ n.proof → ProvesCondition W k P
turns-by law W sound d g ms both n here concluded proved k k_is P Q P_is Q_is =
    subst (λ s. ProvesCondition W s P) (sym k_is)
    (subst (ProvesCondition W (alone (new_to_old d g ms))) (sym (P_is ∙ ap (turned_round d g ms) Q_is))
    (law W sound d g ms both n.proof (condition_by W (alone (old_to_new d g ms)) n here concluded proved)))

-- that the new measure falls at a recursive call
pub falls-by : (W : World) (d : Definition) (ms : List Mapped) (k : ℕ) (s : Sequent) → FallsAt W d ms k s →
    (m : Tm) → d.measure ≡ Some m → (c : RecursiveCall) → slice_get (recursive_calls d.name [] d.body) k ≡ Some c →
    (p : Conclusion) → p.world ≡ W → concludes p.world p.proof ≡ Some p.sequent → proves p.sequent (stays_old d ms c) ≡ true →
    (P Q : Proof) → P ≡ falls_there d m ms (suc k) c Q → Q ≡ p.proof → ProvesCondition W s P
falls-by W d ms k s at m measured c called p here concluded proved P Q P_is Q_is =
    let m_is : at.measure ≡ m = some_is at.measure m (sym at.measured ∙ measured) in
    let c_is : at.call ≡ c = some_is at.call c (sym at.called ∙ called) in
    let falls : (R : Proof) → ProvesCondition W (stays_old d ms c) R → ProvesCondition W s (falls_there d m ms (suc k) c R) =
    subst (λ e. (R : Proof) → ProvesCondition W (stays_old d ms e) R → ProvesCondition W s (falls_there d m ms (suc k) e R)) c_is
    (subst (λ t. (R : Proof) → ProvesCondition W (stays_old d ms at.call) R → ProvesCondition W s (falls_there d t ms (suc k) at.call R)) m_is at.falls) in
    subst (ProvesCondition W s) (sym (P_is ∙ ap (falls_there d m ms (suc k) c) Q_is))
    (falls p.proof (condition_by W (stays_old d ms c) p here concluded proved))
  where
    some_is : {A : Type 0} (x y : A) → Some x ≡ Some y → x ≡ y
    some_is x y e = cc

pub ruleset agreeing = (agrees-by, step-by, turns-by, falls-by)

-- the recursive call at the place of a call of the code
pub call-at : (d : Definition) (cs : List CallInCode) → map call_of cs ≡ recursive_calls d.name [] d.body → (i : ℕ) (c : CallInCode) → i < length cs → c ≡ get_or cs i c → slice_get (recursive_calls d.name [] d.body) i ≡ Some (call_of c)
call-at d cs is i c h e =
    ap (λ ks. slice_get ks i) (sym is) ∙ item-at (map call_of cs) i (call_of c) (subst (λ n. i < n) (sym (length-mapped call_of cs)) h) (mapped-at call_of cs i c h e)

-- a term over names fits
pub fits_over : (W : World) (xs : List Name) (t : Tm) → FitsOver W.functions xs t → Fits W.functions t
fits_over W xs t o = over_map (IsIn xs) (λ x. Unit {0}) (λ f k. arity W.functions f ≡ Some k) (λ f k. arity W.functions f ≡ Some k) (λ x i. tt) (λ f k a. a) t o

module _ (W : World) (sound : Sound W) (d : Definition) (g : Name) (ms : List Mapped) (both : HasBoth W d g ms) where
  pub old_body_fits : Fits W.functions d.body
  old_body_fits = fits_over W d.formals d.body (body_fits W.functions sound.formed d.name d both.old)

  pub called_body_fits : Fits W.functions (called_body d g ms)
  called_body_fits = fits_without W (with_back ms) (called_body d g ms) (fits_over W d.formals (new_body d g ms) (body_fits W.functions sound.formed g (carried_over d g ms) both.new).1.1.0)

  -- the call of the code at a place
  pub agrees-at : CallsAgree → (cs : List CallInCode) → map call_of cs ≡ recursive_calls d.name [] d.body → (i : ℕ) (c : CallInCode) → i < length cs → c ≡ get_or cs i c → Agrees W d g ms (call_of c)
  agrees-at law cs is i c h e = law W sound d g ms both i (call_of c) (call-at d cs is i c h e)

-- the proof of the condition of a call
pub met-at : (W : World) (d : Definition) (ms : List Mapped) (cs : List CallInCode) (ps : List Conclusion) → ProvesAll W (map (stays_old d ms) (map call_of cs)) ps →
    (i : ℕ) (c : CallInCode) (p : Conclusion) → i < length cs → c ≡ get_or cs i c → p ≡ get_or ps i p → (p.world ≡ W) × (proves p.sequent (stays_old d ms (call_of c)) ≡ true)
met-at W d ms cs ps all i c p h e q =
    proof-at W (map (stays_old d ms) (map call_of cs)) ps i (stays_old d ms (call_of c)) p all
    (subst (λ n. i < n) (sym (length-mapped (stays_old d ms) (map call_of cs) ∙ length-mapped call_of cs)) h)
    (mapped-at (stays_old d ms) (map call_of cs) i (call_of c) (subst (λ n. i < n) (sym (length-mapped call_of cs)) h) (mapped-at call_of cs i c h e)) q

module _ (law : BodiesAreAlike) (W : World) (d : Definition) (g : Name) (ms : List Mapped) (n : Tm) (is : n ≡ called_body d g ms) where
  pub new_alike : Alike d.name d.body n
  new_alike = subst (Alike d.name d.body) (sym is) (law W d g ms).0

  -- what the agreements prove of the bodies
  pub differences-proved : (cs : List Conclusion) → ProvesAll W (agreements d g ms) cs → (k : Sequent) → k ≡ same_bodies d g ms → Each (λ e. is_proved_among cs k.universals k.hyps e ≡ true) (differences d.name [] d.body n)
  differences-proved cs all k k_is =
      subst (λ (s : Sequent). Each (λ e. is_proved_among cs s.universals s.hyps e ≡ true) (differences d.name [] d.body n)) (sym k_is)
      (subst (λ t. Each (λ e. is_proved_among cs [] (hypotheses d g ms) e ≡ true) (differences d.name [] d.body t)) (sym is) ((law W d g ms).1 cs all))
