-- That the new measure falls at a recursive call, by the call's place.
use Rattle.std.proofs.Common.{◌≡◌, ℕ, zero, suc, ◌-◌, ◌<◌, true, List, [], ◌∷◌, length, map, get_or, slice_get, Some, sym, ap, ◌∙◌, subst, arith}
use Rattle.std.specs.Prelude.{All}
use Rattle.terms.specs.Measures.{RecursiveCall, recursive_calls}
use Rattle.terms.specs.Terms.{Tm}
use Rattle.terms.specs.Worlds.{World}
use Rattle.terms.specs.declared.definition.Definition.{Definition}
use Rattle.terms.specs.declared.sequent.Sequent.{Sequent}
use Rattle.measures.specs.Calls.{call_of}
use Rattle.measures.specs.declared.calls.RecursiveCall.{RecursiveCall as CallInCode}
use Rattle.kernel.specs.Concludes.{concludes}
use Rattle.kernel.specs.Conclusion.{Conclusion}
use Rattle.plans.specs.Proving.{ProvesAll}
use Rattle.reduction_proofs.specs.Proving.{ProvesCondition}
use Rattle.reduction_proofs.specs.Trees.{Proof}
use Rattle.tool_parts.proofs.Proving.{length-mapped, proofs-length}
use Rattle.isodata_tool.specs.Carried.{Mapped, stays_old}
use Rattle.isodata_tool.specs.Parts.{FallsBefore}
use Rattle.isodata_tool.specs.Proofs.{falls_there}
use Rattle.isodata_tool.proofs.Agreeing.{call-at, falls-by, met-at}

below_length : {A : Type 0} (xs : List A) (k : ℕ) (x : A) → slice_get xs k ≡ Some x → k < length xs
below_length [] k x e = absurd (cc)
below_length (y ∷ ys) zero x e = omega arith
below_length (y ∷ ys) (suc k) x e = let h = below_length ys k x e in omega (arith, h)

-- the call is there
pub call-there : (W : World) (d : Definition) (ms : List Mapped) (n : ℕ) (s : Sequent) → FallsBefore W d ms n s →
    (cs : List CallInCode) → map call_of cs ≡ recursive_calls d.name [] d.body → n - 1 < length cs
call-there W d ms zero s f cs is = absurd f
call-there W d ms (suc k) s f cs is =
    let e : k ≡ suc k - 1 = omega arith in
    let inside : k < length (map call_of cs) = below_length (map call_of cs) k f.call (ap (λ ks. slice_get ks k) is ∙ f.called) in
    subst (λ i. i < length cs) e (subst (λ l. k < l) (length-mapped call_of cs) inside)

-- and so is the proof of its condition
pub proof-there : (W : World) (d : Definition) (ms : List Mapped) (n : ℕ) (s : Sequent) → FallsBefore W d ms n s →
    (cs : List CallInCode) → map call_of cs ≡ recursive_calls d.name [] d.body →
    (ps : List Conclusion) → ProvesAll W (map (stays_old d ms) (map call_of cs)) ps → n - 1 < length ps
proof-there W d ms n s f cs is ps all =
    subst (λ l. n - 1 < l)
    (sym (proofs-length W (map (stays_old d ms) (map call_of cs)) ps all ∙ (length-mapped (stays_old d ms) (map call_of cs) ∙ length-mapped call_of cs)))
    (call-there W d ms n s f cs is)

-- what holds of all calls holds of the one at a place
pub all-at : (P : CallInCode → Type 0) (cs : List CallInCode) (i : ℕ) (c : CallInCode) → All P cs → i < length cs → c ≡ get_or cs i c → P c
all-at P cs i c h lt e = subst P (sym e) (h i c lt)

pub falls-at : (W : World) (d : Definition) (ms : List Mapped) (n : ℕ) (s : Sequent) → FallsBefore W d ms n s →
    (m : Tm) → d.measure ≡ Some m → (cs : List CallInCode) → map call_of cs ≡ recursive_calls d.name [] d.body →
    (ps : List Conclusion) → ProvesAll W (map (stays_old d ms) (map call_of cs)) ps →
    (c : CallInCode) → c ≡ get_or cs (n - 1) c → (p : Conclusion) → p ≡ get_or ps (n - 1) p → concludes p.world p.proof ≡ Some p.sequent →
    (j : ℕ) → j ≡ n → (P Q : Proof) → P ≡ falls_there d m ms j (call_of c) Q → Q ≡ p.proof → ProvesCondition W s P
falls-at W d ms zero s f m measured cs is ps all c c_is p p_is concluded j j_is P Q P_is Q_is = absurd f
falls-at W d ms (suc k) s f m measured cs is ps all c c_is p p_is concluded j j_is P Q P_is Q_is =
    let e : suc k - 1 ≡ k = omega arith in
    let here : c ≡ get_or cs k c = subst (λ i. c ≡ get_or cs i c) e c_is in
    let there : p ≡ get_or ps k p = subst (λ i. p ≡ get_or ps i p) e p_is in
    let inside : k < length cs = subst (λ i. i < length cs) e (call-there W d ms (suc k) s f cs is) in
    let met = met-at W d ms cs ps all k c p inside here there in
    falls-by W d ms k s f m measured (call_of c) (call-at d cs is k c inside here) p met.0 concluded met.1 P Q
    (P_is ∙ ap (λ i. falls_there d m ms i (call_of c) Q) j_is) Q_is
