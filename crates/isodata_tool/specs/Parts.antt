-- The parts of a plan, and what its proofs are about.
use Rattle.std.specs.Prelude.{◌≡◌, ℕ, zero, suc, List, [], ◌∷◌, Some}
use Rattle.lisp_data.specs.Values.{Name}
use Rattle.terms.specs.Definitions.{find}
use Rattle.terms.specs.Links.{alone}
use Rattle.terms.specs.Substitution.{HasDistinctKeys}
use Rattle.terms.specs.Worlds.{World}
use Rattle.terms.specs.declared.definition.Definition.{Definition}
use Rattle.terms.specs.declared.sequent.Sequent.{Sequent}
use Rattle.plans.specs.declared.plan.Plan.{Plan}
use Rattle.isodata_tool.specs.Carried.{Mapped, AreMapped, new_to_old, old_to_new}
use Rattle.isodata_tool.specs.Isomorphic.{Request, planned}
use Rattle.isodata_tool.specs.Laws.{FallsAt}
use Rattle.isodata_tool.specs.Proofs.{backs}

-- d and ms are the old function and the mapped formals of the plan
pub record AreParts (W : World) (q : Request) (d : Definition) (ms : List Mapped) (p : Plan) : Type 0 where
  pub found : find W.functions.defs d.name ≡ Some d
  pub mapped : AreMapped W d.formals ms
  pub keys : HasDistinctKeys (backs ms)
  pub plan : p ≡ planned q d ms

-- both theorems
abbrev pub theorems : Definition → Name → List Mapped → List Sequent
theorems d g ms = alone (new_to_old d g ms) ∷ alone (old_to_new d g ms) ∷ []

-- what is owed behind the first
abbrev pub FallsBefore : World → Definition → List Mapped → ℕ → Sequent → Type 0
FallsBefore W d ms zero s = ⊥
FallsBefore W d ms (suc k) s = FallsAt W d ms k s
