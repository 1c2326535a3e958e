-- Terms without variables, and the values of outcomes.
use Rattle.std.proofs.Common.{◌≡◌, ℕ, true, Some}
use Rattle.std.proofs.lemmas.Bool.{and_parts}
use Rattle.lisp_data.specs.Values.{Val}
use Rattle.terms.specs.Terms.{Tm, Var, Quote, Call, Tms, Done, More, OverAll}
use Rattle.terms.specs.Worlds.{Functions, Fits, arity}
use Rattle.evaluator.specs.Counted.{Outcome, Gives, Stops}
use Rattle.evaluator.specs.Laws.{IsGround}
use Rattle.kernel.specs.Fitting.{fits}
use Rattle.kernel.specs.Evaluating.{is_ground, all_ground, value_of}
use Rattle.kernel.proofs.Inversions.{fits_true}

some_is : {A : Type 0} {x y : A} → Some x ≡ Some y → x ≡ y
some_is e = cc

pub gives_value : (o : Outcome) (v : Val) → value_of o ≡ Some v → (c : ℕ) × (o ≡ Gives v c)
gives_value (Gives w c) v e = let h : w ≡ v = some_is e in (c, λ i. Gives (h i) c)
gives_value (Stops r) v e = absurd (cc)

module _ (W : Functions) where
  mutual
    pub ground_fits : (t : Tm) → Fits W t → is_ground t ≡ true → IsGround W t
    ground_fits (Var x) f e = absurd (cc)
    ground_fits (Quote v) f e = tt
    ground_fits (Call g ts) f e = (f.0, all_ground_fit ts f.1 e)

    all_ground_fit : (ts : Tms) → OverAll (λ x. Unit {0}) (λ f k. arity W f ≡ Some k) ts → all_ground ts ≡ true → OverAll (λ x. ⊥) (λ f k. arity W f ≡ Some k) ts
    all_ground_fit Done f e = tt
    all_ground_fit (More t ts) f e = let h = and_parts (is_ground t) (all_ground ts) e in (ground_fits t f.0 h.0, all_ground_fit ts f.1 h.1)

-- a well-formed term without variables can be evaluated
pub evaluable : (W : Functions) (t : Tm) → fits W t ≡ true → is_ground t ≡ true → IsGround W t
evaluable W t f g = ground_fits W t (fits_true W t f) g
