-- The recursive calls of the old function.
use Rattle.std.proofs.Common.{◌≡◌, ℕ, zero, suc, Bool, true, false, is_some, List, [], ◌∷◌, length, slice_get, Option, Some, None, refl, subst}
use Rattle.terms.specs.Definitions.{find}
use Rattle.terms.specs.Measures.{mentions, RecursiveCall, recursive_calls}
use Rattle.terms.specs.Sound.{Sound}
use Rattle.terms.specs.Terms.{Tm, count}
use Rattle.terms.specs.Worlds.{World, Distinct, Each}
use Rattle.terms.specs.declared.definition.Definition.{Definition}
use Rattle.kernel.specs.Fitting.{fit_all}
use Rattle.proof_builders.proofs.Schemes.{no_calls}
use Rattle.reduction_proofs.proofs.Members.{Fit}
use Rattle.reduction_proofs.proofs.Recursive.{has_distinct_formals, has_measure, is_recursive}

-- what holds of each item holds of the one at a place
pub at_place : (P : RecursiveCall → Type 0) (cs : List RecursiveCall) (k : ℕ) (c : RecursiveCall) → Each P cs → slice_get cs k ≡ Some c → P c
at_place P [] k c h e = absurd (cc)
at_place P (b ∷ bs) zero c h e = let same : b ≡ c = cc in subst P same h.0
at_place P (b ∷ bs) (suc k) c h e = at_place P bs k c h.1 e

-- the terms of a recursive call are well formed, and it has an argument for each formal
pub record IsCall (W : World) (d : Definition) (c : RecursiveCall) : Type 0 where
  pub distinct : Distinct d.formals
  pub tests : Each (Fit W) c.tests
  pub args : fit_all W.functions c.args ≡ true
  pub number : count c.args ≡ length d.formals

module _ (W : World) (sound : Sound W) (d : Definition) (found : find W.functions.defs d.name ≡ Some d) where
  -- a definition with a recursive call is recursive
  pub is_call : (k : ℕ) (c : RecursiveCall) → slice_get (recursive_calls d.name [] d.body) k ≡ Some c → IsCall W d c
  is_call k c e = by_test (mentions d.name d.body) refl
    where
      with_measure : mentions d.name d.body ≡ true → (o : Option Tm) → d.measure ≡ o → is_some o ≡ true → IsCall W d c
      with_measure q None m i = absurd (cc)
      with_measure q (Some t) m i =
          let h = at_place _ (recursive_calls d.name [] d.body) k c (is_recursive W sound d.name d found q t m).calls e in
          record { distinct = has_distinct_formals W sound d.name d found q; tests = h.0; args = h.1; number = h.2 }

      by_test : (b : Bool) → mentions d.name d.body ≡ b → IsCall W d c
      by_test true q = with_measure q d.measure refl (has_measure W sound d.name d found q)
      by_test false q = let none : slice_get [] k ≡ Some c = subst (λ cs. slice_get cs k ≡ Some c) (no_calls d.name d.body [] q) e in absurd (cc)
