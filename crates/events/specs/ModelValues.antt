-- The value of a form in the model.
use Rattle.std.specs.Prelude.{◌≡◌, ℕ, Some, None, Ok}
use Rattle.lisp_data.specs.Values.{Val}
use Rattle.lisp_data.specs.Datum.{Datum}
use Rattle.terms.specs.Terms.{Tm}
use Rattle.terms.specs.Definitions.{Interp}
use Rattle.terms.specs.Evaluation.{eval}
use Rattle.terms.specs.Worlds.{World}
use Rattle.events.specs.ValueTriple.{ground_term}

-- The form stands for a term without variables, and this is the term's value by the definitions of the world: at some depth, whatever its
-- function variables stand for.
pub record IsModelValue (W : World) (form : Datum) (v : Val) : Type 0 where
  pub term : Tm
  pub is_term : ground_term W form ≡ Ok term
  pub is_value : (I : Interp) → (n : ℕ) × (eval n W.functions.defs I term (λ x. None) ≡ Some v)
