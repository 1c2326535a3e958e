-- `defthm-inst`: the instance of a theorem, in which functions stand for function variables. It has no conditions.
use Rattle.std.specs.Prelude.{List, [], ◌∷◌, ◌++◌, codes, Option, Some, None, true, Ok, Err}
use Rattle.lisp_data.specs.Values.{Name}
use Rattle.lisp_data.specs.declared.code.Code.TheVariants as code
use Rattle.lisp_data.specs.declared.detail.Detail.TheVariants as detail
use Rattle.terms.specs.Instances.{instance_map, sequent_terms, renamed_sequent}
use Rattle.terms.specs.Primitives.{lookup}
use Rattle.terms.specs.Worlds.{World}
use Rattle.terms.specs.declared.entries.FunPair.{FunPair}
use Rattle.terms.specs.declared.sequent.Sequent.{Sequent}
use Rattle.term_forms.specs.Translation.{Outcome, and_then, map_outcome}
use Rattle.plans.specs.declared.plan.Entry.TheVariants.{Theorem}
use Rattle.plans.specs.declared.plan.Plan.{Plan}
use Rattle.event_forms.specs.Instances.{InstanceParts, pairs_of}
use Rattle.events.specs.Frames.{Frame, AsForm, no_clauses, coded}

-- what a theorem states, by its name
abbrev pub stated_by : Name → Option Sequent → Outcome Sequent
stated_by t None = Err (code.UnknownName, detail.Name t)
stated_by t (Some s) = Ok s

abbrev pub stated : World → Name → Outcome Sequent
stated W t = stated_by t (lookup W.theorems t)

-- the sequent under the map that the pairs give for it
abbrev pub instance_by : World → List FunPair → Sequent → Outcome Sequent
instance_by W pairs s = map_outcome (λ m. renamed_sequent m s) (instance_map W (sequent_terms s) pairs)

-- the theorem comes first, then the pairs
abbrev pub theorem_instance : World → InstanceParts → Outcome Sequent
theorem_instance W p = and_then (stated W p.of) (λ s. and_then (pairs_of p.pairs) (λ pairs. instance_by W pairs s))

abbrev pub theorem_plan : Name → Sequent → Plan
theorem_plan n s = record { entries = Theorem n s ∷ []; conditions = []; before = []; after = [] }

abbrev pub defthm_inst : InstanceParts → Frame
defthm_inst p = record {
  title = codes "defthm-inst " ++ p.name;
  shows = true;
  prints = None;
  names = p.name ∷ [];
  repeats = AsForm;
  clauses = no_clauses;
  plan = λ W. coded (map_outcome (theorem_plan p.name) (theorem_instance W p));
}
