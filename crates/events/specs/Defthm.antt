-- `defthm`: a theorem, whose one condition is its claim.
use Rattle.std.specs.Prelude.{List, [], ◌∷◌, ◌++◌, codes, Option, Some, None, Ok, Err, false}
use Rattle.lisp_data.specs.Values.{Name}
use Rattle.lisp_data.specs.Datum.{Datum}
use Rattle.lisp_data.specs.declared.code.Code.TheVariants as code
use Rattle.lisp_data.specs.declared.detail.Detail.TheVariants as detail
use Rattle.terms.specs.Terms.{Tm}
use Rattle.terms.specs.Joins.{without_repeats}
use Rattle.terms.specs.Worlds.{World, arity}
use Rattle.terms.specs.declared.entries.Specification.{Specification}
use Rattle.terms.specs.declared.sequent.Sequent.{Sequent}
use Rattle.term_forms.specs.Translation.{Outcome, and_then, and_rest, map_outcome, translate}
use Rattle.worlds.specs.Lookups.{find_spec}
use Rattle.proof_texts.specs.Items.{symbol_of}
use Rattle.proof_texts.specs.Parts.{any}
use Rattle.plans.specs.declared.plan.Condition.{Condition}
use Rattle.plans.specs.declared.plan.Plan.{Plan}
use Rattle.plans.specs.declared.plan.Entry.TheVariants.{Theorem}
use Rattle.event_forms.specs.Refused.{not_an_event}
use Rattle.event_forms.specs.Shapes.{TheoremParts}
use Rattle.events.specs.Frames.{Frame, AsTheorem, Clauses, coded}

-- the matrix of an assumed specification
abbrev pub matrix_by : Name → Option Specification → Outcome Tm
matrix_by n (Some s) = Ok s.matrix
matrix_by n None = Err (code.NotASpec, detail.Name n)

-- by its name; another form never comes, since the shape of an event comes first
abbrev pub matrix_named : World → Option Name → Outcome Tm
matrix_named W (Some n) = matrix_by n (find_spec W.specifications n)
matrix_named W None = not_an_event

-- those of assumed specifications, in order
abbrev pub matrices : World → List Datum → Outcome (List Tm)
matrices W [] = Ok []
matrices W (form ∷ forms) = and_rest (matrix_named W (symbol_of form)) (matrices W forms)

-- the universals that a theorem assumes: the matrices, each once
abbrev pub universals_of : World → List Datum → Outcome (List Tm)
universals_of W assumed = map_outcome without_repeats (matrices W assumed)

-- what a theorem claims: its formula under its universals, without hypotheses
abbrev pub claim : List Tm → Tm → Sequent
claim us formula = record { universals = us; hyps = []; goal = formula }

abbrev pub goal : List Tm → Tm → Condition
goal us t = record { name = codes ":GOAL"; sequent = claim us t }

abbrev pub theorem_plan : Name → List Tm → Tm → Plan
theorem_plan n us t = record {
  entries = Theorem n (claim us t) ∷ [];
  conditions = goal us t ∷ [];
  before = [];
  after = [];
}

-- what is assumed comes first, then the formula
abbrev pub plan_of : World → TheoremParts → Outcome Plan
plan_of W t =
    and_then (universals_of W t.assumed) (λ us. map_outcome (theorem_plan t.name us) (translate (arity W.functions) any t.formula))

-- what serves the one condition, where it is given
abbrev pub of_goal : {A : Type 0} → Option A → List (Name × A)
of_goal None = []
of_goal (Some x) = (codes ":GOAL", x) ∷ []

abbrev pub goal_clauses : Option Datum → Option (List Datum) → Clauses
goal_clauses proof how = record { proofs = of_goal proof; hows = of_goal how }

abbrev pub defthm : TheoremParts → Frame
defthm t = record {
  title = codes "defthm " ++ t.name;
  shows = false;
  prints = None;
  names = t.name ∷ [];
  repeats = AsTheorem t.name (record { formula = t.formula; assumed = t.assumed });
  clauses = goal_clauses t.proof t.how;
  plan = λ W. coded (plan_of W t);
}
