-- What holds of each term of the lists that rules make.
use Rattle.std.proofs.Common.{◌≡◌, Bool, true, false, cond, not, List, [], ◌∷◌, map, refl, sym, subst}
use Rattle.terms.specs.Terms.{Tm, same_tm}
use Rattle.terms.specs.Worlds.{Each}
use Rattle.terms.proofs.Same.{same_term}
pub use Rattle.terms.proofs.Lists.{join_parts, join_to}
use Rattle.kernel.specs.Sequents.{without}

-- what holds of each term of a list without a term of which it holds holds of each term of the list, and the other way round
module _ (P : Tm → Type 0) where
  pub without_parts : (us : List Tm) (t : Tm) → P t → Each P (without us t) → Each P us
  without_parts [] t p h = tt
  without_parts (u ∷ us) t p h = by_test (same_tm t u) refl h (without_parts us t p)
    where
      by_test : (b : Bool) → same_tm t u ≡ b → Each P (cond (not b) (u ∷ without us t) (without us t)) → (Each P (without us t) → Each P us) → P u × Each P us
      by_test true e h' ih = (subst P (same_term t u e) p, ih h')
      by_test false e h' ih = (h'.0, ih h'.1)

  pub without_to : (us : List Tm) (t : Tm) → Each P us → Each P (without us t)
  without_to [] t h = tt
  without_to (u ∷ us) t h = by_test (same_tm t u) (without_to us t h.1)
    where
      by_test : (b : Bool) → Each P (without us t) → Each P (cond (not b) (u ∷ without us t) (without us t))
      by_test true ih = ih
      by_test false ih = (h.0, ih)

  pub map_to : (f : Tm → Tm) (us : List Tm) → Each (λ u. P (f u)) us → Each P (map f us)
  map_to f [] h = tt
  map_to f (u ∷ us) h = (h.0, map_to f us h.1)
