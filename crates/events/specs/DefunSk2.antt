-- `defun-sk2`: a specification, whose matrix says what its function variables are to do, for all values of its variables. It has no conditions.
use Rattle.std.specs.Prelude.{List, [], ◌∷◌, ◌++◌, codes, None, false}
use Rattle.lisp_data.specs.Values.{Name}
use Rattle.terms.specs.Terms.{Tm}
use Rattle.terms.specs.Worlds.{World, arity, is_in}
use Rattle.terms.specs.declared.entries.Specification.{Specification}
use Rattle.term_forms.specs.Translation.{Outcome, and_then, map_outcome, translate}
use Rattle.plans.specs.declared.plan.Plan.{Plan}
use Rattle.plans.specs.declared.plan.Entry.TheVariants.{Spec}
use Rattle.event_forms.specs.SecondOrder.{SpecificationParts}
use Rattle.events.specs.declared.orders.Order.TheVariants.{Second}
use Rattle.events.specs.Definitions.{variables_of}
use Rattle.events.specs.Frames.{Frame, AsForm, no_clauses, coded}
use Rattle.events.specs.Orders.{in_order}

abbrev pub specification : Name → List Name → Tm → Specification
specification s xs matrix = record { name = s; variables = xs; matrix = matrix }

-- the matrix over the variables, which depends on a function variable
abbrev pub specification_over : World → SpecificationParts → List Name → Outcome Specification
specification_over W p xs =
    and_then (translate (arity W.functions) (is_in xs) p.matrix) (λ matrix.
    map_outcome (λ _. specification p.name xs matrix) (in_order W Second (matrix ∷ [])))

-- the specification by its parts
abbrev pub specification_of : World → SpecificationParts → Outcome Specification
specification_of W p = and_then (variables_of p.variables) (specification_over W p)

abbrev pub specification_plan : Specification → Plan
specification_plan s = record { entries = Spec s ∷ []; conditions = []; before = []; after = [] }

abbrev pub defun_sk2 : SpecificationParts → Frame
defun_sk2 p = record {
  title = codes "defun-sk2 " ++ p.name;
  shows = false;
  prints = None;
  names = p.name ∷ [];
  repeats = AsForm;
  clauses = no_clauses;
  plan = λ W. coded (map_outcome specification_plan (specification_of W p));
}
