-- `defunvar`: a function variable, which stands for any function of so many arguments. It has no conditions.
use Rattle.std.specs.Prelude.{ℕ, [], ◌∷◌, ◌++◌, codes, None, Ok, false}
use Rattle.lisp_data.specs.Values.{Name}
use Rattle.plans.specs.declared.plan.Plan.{Plan}
use Rattle.plans.specs.declared.plan.Entry.TheVariants.{Variable}
use Rattle.event_forms.specs.SecondOrder.{VariableParts}
use Rattle.events.specs.Frames.{Frame, AsForm, no_clauses}

abbrev pub variable_plan : Name → ℕ → Plan
variable_plan x k = record { entries = Variable x k ∷ []; conditions = []; before = []; after = [] }

abbrev pub defunvar : VariableParts → Frame
defunvar v = record {
  title = codes "defunvar " ++ v.name;
  shows = false;
  prints = None;
  names = v.name ∷ [];
  repeats = AsForm;
  clauses = no_clauses;
  plan = λ W. Ok (variable_plan v.name v.arity);
}
