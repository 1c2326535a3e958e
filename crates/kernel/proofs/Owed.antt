-- The obligations of definitions that are found in a sound world.
use Rattle.std.proofs.Common.{◌≡◌, ◌<◌, ℕ, zero, suc, true, false, List, [], ◌∷◌, length, nat_lt, slice_get, Option, Some, None, refl, sym, ap, ◌∙◌, arith}
use Rattle.std.specs.Prelude.{IsSome}
use Rattle.std.proofs.lemmas.Bool.{ltb-true, ltb-false}
use Rattle.std.proofs.lemmas.Option.{slice_get_past}
use Rattle.terms.specs.Evaluation.{then_with}
use Rattle.lisp_data.specs.Values.{Name}
use Rattle.terms.specs.Definitions.{find}
use Rattle.terms.specs.Measures.{is_nested, obligations}
use Rattle.terms.specs.Sound.{Sound}
use Rattle.terms.specs.Worlds.{World, IsIn, Distinct, arity}
use Rattle.terms.specs.declared.definition.Definition.{Definition}
use Rattle.terms.specs.declared.sequent.Sequent.{Sequent}
use Rattle.terms.proofs.Extend.{body_fits, over_map}
use Rattle.terms.proofs.Meaning.{arity_defined}
use Rattle.terms.proofs.Found.{IsFoundFormed, found_formed, found_name}
use Rattle.measures.specs.Calls.{CallsTake}

some_is : {A : Type 0} {x y : A} → Some x ≡ Some y → x ≡ y
some_is e = cc

module _ (W : World) (sound : Sound W) (f : Name) (d : Definition) (found : find W.functions.defs f ≡ Some d) where
  formed : IsFoundFormed W.functions d
  formed = found_formed W.functions.vars W.functions.defs sound.formed f d found

  pub found_flat : is_nested d.name d.body ≡ false
  found_flat = formed.flat

  -- each of its calls of itself has as many arguments as it has formals
  pub calls_take : CallsTake d.name (length d.formals) d.body
  calls_take =
      over_map (IsIn d.formals) (λ x. Unit {0}) (λ g k. arity W.functions g ≡ Some k) (λ g k. g ≡ d.name → k ≡ length d.formals) (λ x i. tt)
      (λ g k a same. some_is (sym a ∙ ap (arity W.functions) (same ∙ found_name W.functions.defs f d found) ∙ arity_defined W.functions sound.formed f d found))
      d.body (body_fits W.functions sound.formed f d found)

  pub found_distinct : Distinct d.formals
  found_distinct = formed.formals

-- the obligations of numbers below how many there are
pub has_item : (ss : List Sequent) (k : ℕ) → true ≡ nat_lt k (length ss) → IsSome (slice_get ss k)
has_item ss k e = at ss k (ltb-true k (length ss) (sym e))
  where
    at : (ss : List Sequent) (k : ℕ) → k < length ss → IsSome (slice_get ss k)
    at [] k h = absurd (omega arith)
    at (s ∷ ss) zero h = refl
    at (s ∷ ss) (suc k) h = at ss k (omega arith)

pub no_item : (ss : List Sequent) (k : ℕ) → false ≡ nat_lt k (length ss) → slice_get ss k ≡ None
no_item ss k e = slice_get_past ss k (ltb-false k (length ss) (sym e))

pub found_in : (ds : List Definition) (f : Name) (d : Definition) (o : Option Definition) (k : ℕ) → o ≡ find ds f → o ≡ Some d → then_with (find ds f) (λ d. slice_get (obligations d) k) ≡ slice_get (obligations d) k
found_in ds f d o k e h = ap (λ o. then_with o (λ d. slice_get (obligations d) k)) (sym e ∙ h)

pub ruleset owed = (found_flat, calls_take, found_distinct, has_item)
