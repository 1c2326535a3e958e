-- The rules that cite a fact of the world, as it is or with functions in the place of function variables.
use Rattle.std.specs.Prelude.{ℕ, zero, suc, List, slice_get, Option, Some, None, Ok, Err}
use Rattle.std.specs.Option.{option_map}
use Rattle.terms.specs.Definitions.{find}
use Rattle.terms.specs.Measures.{obligations}
use Rattle.terms.specs.Primitives.{lookup}
use Rattle.terms.specs.Evaluation.{then_with}
use Rattle.terms.specs.Worlds.{World}
use Rattle.terms.specs.Refusals.{Outcome}
use Rattle.terms.specs.Instances.{instance_map, sequent_terms, renamed_sequent}
use Rattle.terms.specs.Sound.{iso_conditions}
use Rattle.terms.specs.declared.sequent.Sequent.{Sequent}
use Rattle.terms.specs.declared.entries.FunPair.{FunPair}
use Rattle.terms.specs.declared.entries.FactName.{FactName}
use Rattle.terms.specs.declared.entries.FactName.TheVariants.{Theorem, Measure, Isomorphism}
use Rattle.worlds.specs.Lookups.{find_iso}

-- the item of a number, from 1
abbrev pub item : {A : Type 0} → List A → ℕ → Option A
item xs zero = None
item xs (suc k) = slice_get xs k

-- theorem: a theorem of the world, an obligation of one of its definitions (from 0 on), or a condition of one of its
-- isomorphisms (from 1 on)
abbrev pub fact_of : World → FactName → Option Sequent
fact_of W (Theorem n) = lookup W.theorems n
fact_of W (Measure f k) = then_with (find W.functions.defs f) (λ d. slice_get (obligations d) k)
fact_of W (Isomorphism n k) = then_with (find_iso W.isos n) (λ i. item (iso_conditions i) k)

-- what there is, or nothing where it is refused
abbrev pub unless_refused : {A : Type 0} → Outcome A → Option A
unless_refused (Ok x) = Some x
unless_refused (Err e) = None

-- a sequent with functions in the place of function variables
abbrev pub under_pairs : World → List FunPair → Sequent → Option Sequent
under_pairs W pairs s = option_map (λ m. renamed_sequent m s) (unless_refused (instance_map W (sequent_terms s) pairs))

-- instance: a theorem or an obligation under pairs; a condition of an isomorphism has none
abbrev pub fact_instance : World → List FunPair → FactName → Option Sequent
fact_instance W pairs (Theorem n) = then_with (fact_of W (Theorem n)) (under_pairs W pairs)
fact_instance W pairs (Measure f k) = then_with (fact_of W (Measure f k)) (under_pairs W pairs)
fact_instance W pairs (Isomorphism n k) = None
