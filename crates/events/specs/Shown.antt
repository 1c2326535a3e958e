-- What an accepted event has made, as it is shown behind its line where the command asks for that.
use Rattle.std.specs.Prelude.{ℕ, zero, suc, Bool, true, false, ◌&&◌, if◌then◌else◌, List, [], ◌∷◌, ◌++◌, Option, Some, None, Ok, Err, codes}
use Rattle.lisp_data.specs.Values.{Name}
use Rattle.lisp_data.specs.Datum.{Datum}
use Rattle.terms.specs.Terms.{Tm}
use Rattle.terms.specs.Worlds.{World}
use Rattle.terms.specs.declared.definition.Definition.{Definition}
use Rattle.terms.specs.declared.entries.Specification.{Specification}
use Rattle.terms.specs.declared.sequent.Sequent.{Sequent}
use Rattle.term_forms.specs.Printing.{term_text}
use Rattle.term_forms.specs.Translation.{Outcome}
use Rattle.plans.specs.declared.plan.Entry.{Entry}
use Rattle.plans.specs.declared.plan.Entry.TheVariants.{Function, Variable, Theorem, Spec, Isomorphism, Instance, Chained}
use Rattle.plans.specs.declared.plan.Plan.{Plan}
use Rattle.event_forms.specs.Shapes.{Event, event_of}
use Rattle.events.specs.Frames.{Judged, Frame}
use Rattle.events.specs.Kinds.{frame_of}
use Rattle.events.specs.Verdicts.{checked}

-- each behind a blank
abbrev pub further_text : List (List ℕ) → List ℕ
further_text [] = []
further_text (x ∷ xs) = codes " " ++ (x ++ further_text xs)

-- between parentheses, with blanks
abbrev pub list_text : List (List ℕ) → List ℕ
list_text [] = codes "()"
list_text (x ∷ xs) = codes "(" ++ (x ++ (further_text xs ++ codes ")"))

-- a recursive function has a measure
abbrev pub measure_text : Option Tm → List ℕ
measure_text None = []
measure_text (Some m) = codes "(DECLARE (XARGS :MEASURE " ++ (term_text m ++ codes ")) ")

-- `function (DEFUN F (X ..) body)`
abbrev pub function_line : Definition → List ℕ
function_line d =
    codes "function (DEFUN "
    ++ (d.name ++ (codes " " ++ (list_text d.formals ++ (codes " " ++ (measure_text d.measure ++ (term_text d.body ++ codes ")\n"))))))

-- `specification (DEFUN-SK2 S () (FORALL (X ..) matrix))`
abbrev pub specification_line : Specification → List ℕ
specification_line s =
    codes "specification (DEFUN-SK2 "
    ++ (s.name ++ (codes " () (FORALL " ++ (list_text s.variables ++ (codes " " ++ (term_text s.matrix ++ codes "))\n")))))

abbrev pub texts_of : List Tm → List (List ℕ)
texts_of [] = []
texts_of (t ∷ ts) = term_text t ∷ texts_of ts

-- what a theorem assumes
abbrev pub assuming_text : List Tm → List ℕ
assuming_text [] = []
assuming_text (u ∷ us) = codes " :ASSUMING " ++ list_text (texts_of (u ∷ us))

-- `theorem (DEFTHM N goal)`
abbrev pub theorem_line : Name → Sequent → List ℕ
theorem_line n s = codes "theorem (DEFTHM " ++ (n ++ (codes " " ++ (term_text s.goal ++ (assuming_text s.universals ++ codes ")\n"))))

-- a function, a specification and a theorem have a line; no event that is shown makes anything else that has one
abbrev pub entry_lines : Entry → List (List ℕ)
entry_lines (Function d) = function_line d ∷ []
entry_lines (Spec s) = specification_line s ∷ []
entry_lines (Theorem n s) = theorem_line n s ∷ []
entry_lines _ = []

abbrev pub entries_lines : List Entry → List (List ℕ)
entries_lines [] = []
entries_lines (e ∷ es) = entry_lines e ++ entries_lines es

-- of an event's plan, where it is to be shown
abbrev pub plan_lines : Bool → Judged Plan → List (List ℕ)
plan_lines false p = []
plan_lines true (Ok p) = entries_lines p.entries
plan_lines true (Err why) = []

abbrev pub frame_lines : Bool → World → Frame → List (List ℕ)
frame_lines show W e = plan_lines (show && e.shows) (checked W e)

abbrev pub shape_lines : Bool → World → Outcome Event → List (List ℕ)
shape_lines show W (Ok event) = frame_lines show W (frame_of event)
shape_lines show W (Err e) = []

-- the lines behind the line of a form that is accepted
abbrev pub shown_lines : Bool → World → Datum → List (List ℕ)
shown_lines show W form = shape_lines show W (event_of form)
