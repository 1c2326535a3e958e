-- Arithmetic terms with the same coefficients are equal in each sound world.
use Rattle.std.proofs.Common.{◌≡◌, ◌≢◌, true, List, [], ◌∷◌, ◌+ℤ◌, ◌*ℤ◌, neg_ℤ, codes, Some, refl, sym, ap, ◌∙◌}
use Rattle.lisp_data.specs.Values.{Name, Val, Int, nil, same_val}
use Rattle.terms.specs.Primitives.{One, Two, primitive, primitives, truth, number}
use Rattle.terms.specs.Terms.{Tm}
use Rattle.terms.specs.Definitions.{Interp}
use Rattle.terms.specs.Worlds.{World, Fits, TotalFor, IsTrueAt}
use Rattle.terms.specs.Sound.{Sound}
use Rattle.terms.proofs.Models.{Model, model, val}
use Rattle.terms.proofs.Meaning.{of_primitive, arity_primitive, true_from, value_self}
use Rattle.terms.proofs.Basics.{t_not_nil}
use Rattle.ring_laws.specs.Laws.{equality, SameDecides, RingLaw}
use Rattle.ring_laws.specs.Expressions.{is_arithmetic, expression}
use Rattle.ring_laws.specs.Polynomials.{SamePolynomial, monomials, alike}
use Rattle.ring_laws.proofs.Multisets.{alike_laws}
use Rattle.ring_laws.proofs.Sums.{agreement}
use Rattle.ring_laws.proofs.Values.{same_values}

is_equal : primitive (codes "EQUAL") ≡ Some (Two (λ a b. truth (same_val a b)))
unfolding primitive primitives
is_equal = refl

is_plus : primitive (codes "BINARY-+") ≡ Some (Two (λ a b. Int (number a +ℤ number b)))
unfolding primitive primitives
is_plus = refl

is_times : primitive (codes "BINARY-*") ≡ Some (Two (λ a b. Int (number a *ℤ number b)))
unfolding primitive primitives
is_times = refl

is_minus : primitive (codes "UNARY--") ≡ Some (One (λ a. Int (neg_ℤ (number a))))
unfolding primitive primitives
is_minus = refl

-- in a model, equal values are EQUAL
module _ (W : World) (sound : Sound W) (I : Interp) (tot : TotalFor W.functions I) where
  M : Model W.functions I
  M = model W.functions I (sound.total I tot)

  equal_values : (x y : Val) → x ≡ y → M.of (codes "EQUAL") (x ∷ y ∷ []) ≢ nil
  equal_values x y e h =
      t_not_nil (
      ap truth (sym (value_self x))
      ∙ ap (λ z. truth (same_val x z)) e
      ∙ sym (of_primitive W.functions I M (codes "EQUAL") _ (x ∷ y ∷ []) (truth (same_val x y)) is_equal refl)
      ∙ h
      )

  equal_terms : (a b : Tm) → is_arithmetic a ≡ true → is_arithmetic b ≡ true → SamePolynomial a b → (env : Name → Val) → val M.of (equality a b).goal env ≢ nil
  equal_terms a b ra rb h env =
      equal_values _ _ (
      same_values M.of env
      (λ x y. of_primitive W.functions I M (codes "BINARY-+") _ (x ∷ y ∷ []) _ is_plus refl)
      (λ x y. of_primitive W.functions I M (codes "BINARY-*") _ (x ∷ y ∷ []) _ is_times refl)
      (λ x. of_primitive W.functions I M (codes "UNARY--") _ (x ∷ []) _ is_minus refl)
      a b ra rb h
      )

  equal_holds : (a b : Tm) → Fits W.functions (equality a b).goal → is_arithmetic a ≡ true → is_arithmetic b ≡ true → SamePolynomial a b → (env : Name → Val) → IsTrueAt W.functions I env (equality a b).goal
  equal_holds a b f ra rb h env = true_from W.functions I M (equality a b).goal f env (equal_terms a b ra rb h env)

pub ring_law : RingLaw
ring_law W sound a b fa fb ra rb h =
    let f : Fits W.functions (equality a b).goal = (arity_primitive W.functions (codes "EQUAL") _ is_equal, (fa, (fb, tt))) in
    (record { universals = tt; hyps = tt; goal = f }, λ I tot us env hs. equal_holds W sound I tot a b f ra rb h env)

pub same_decides : SameDecides
same_decides a b = agreement (List Tm) alike alike_laws (monomials (expression a)) (monomials (expression b))
