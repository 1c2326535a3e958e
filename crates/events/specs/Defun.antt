-- `defun` and `defun2`: a function, whose conditions are what its measure owes. That of `defun` depends on no function variable, and that of `defun2`
-- on one at least.
use Rattle.std.specs.Prelude.{ℕ, ◌+◌, List, [], ◌∷◌, ◌++◌, codes, None, false}
use Rattle.std.specs.Fmt.{decimal}
use Rattle.terms.specs.Measures.{obligations}
use Rattle.term_forms.specs.Translation.{map_outcome}
use Rattle.terms.specs.declared.definition.Definition.{Definition}
use Rattle.terms.specs.declared.sequent.Sequent.{Sequent}
use Rattle.plans.specs.declared.plan.Condition.{Condition}
use Rattle.plans.specs.declared.plan.Plan.{Plan}
use Rattle.plans.specs.declared.plan.Entry.TheVariants.{Function}
use Rattle.events.specs.declared.orders.Order.{Order}
use Rattle.events.specs.declared.orders.Order.TheVariants.{First, Second}
use Rattle.events.specs.Definitions.{definition_of}
use Rattle.event_forms.specs.Shapes.{FunctionParts}
use Rattle.events.specs.Frames.{Frame, AsForm, coded}

-- the measure is a natural number
abbrev pub natural : Sequent → Condition
natural s = record { name = codes ":MEASURE-NATP"; sequent = s }

-- the measure falls at the recursive call k
abbrev pub decrease : ℕ → Sequent → Condition
decrease k s = record { name = codes ":MEASURE-DECREASES-" ++ decimal k; sequent = s }

-- at each recursive call; the calls are counted
abbrev pub decreases : ℕ → List Sequent → List Condition
decreases k [] = []
decreases k (s ∷ ss) = decrease k s ∷ decreases (k + 1) ss

-- what a definition owes, under names: its measure is a natural number, and falls
abbrev pub measure_conditions : List Sequent → List Condition
measure_conditions [] = []
measure_conditions (s ∷ ss) = natural s ∷ decreases 1 ss

abbrev pub function_plan : Definition → Plan
function_plan d = record { entries = Function d ∷ []; conditions = measure_conditions (obligations d); before = []; after = [] }

-- the word of the event, and a blank
abbrev pub word : Order → List ℕ
word First = codes "defun "
word Second = codes "defun2 "

abbrev pub defun : Order → FunctionParts → Frame
defun order p = record {
  title = word order ++ p.name;
  shows = false;
  prints = None;
  names = p.name ∷ [];
  repeats = AsForm;
  clauses = record { proofs = p.proofs; hows = p.hows };
  plan = λ W. coded (map_outcome function_plan (definition_of W order p));
}
