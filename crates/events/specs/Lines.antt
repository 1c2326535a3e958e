-- The lines of events.
use Rattle.std.specs.Prelude.{ℕ, List, [], ◌∷◌, ◌++◌, map, Ok, Err, codes}
use Rattle.std.specs.Fmt.{decimal}
use Rattle.lisp_data.specs.Values.{Val}
use Rattle.lisp_data.specs.Datum.{Datum}
use Rattle.lisp_reader.specs.Printed.{value_text}
use Rattle.terms.specs.Terms.{Tm}
use Rattle.terms.specs.declared.sequent.Sequent.{Sequent}
use Rattle.term_forms.specs.Printing.{term_text}
use Rattle.term_forms.specs.Translation.{Outcome}
use Rattle.event_forms.specs.Shapes.{Event, event_of}
use Rattle.events.specs.declared.refusal.Refusal.{Refusal}
use Rattle.events.specs.declared.refusal.Refusal.TheVariants.{NotProved}
use Rattle.events.specs.Frames.{Frame}
use Rattle.events.specs.Kinds.{frame_of}
use Rattle.events.specs.Refusals.{refusal_text}

-- the line of an event, which begins with a word on what became of it
abbrev pub event_text : List ℕ → Frame → List ℕ
event_text begin e = begin ++ (e.title ++ codes "\n")

-- such a line is written of events alone
abbrev pub text_of : List ℕ → Outcome Event → List ℕ
text_of begin (Ok event) = event_text begin (frame_of event)
text_of begin (Err e) = []

abbrev pub ok_line : Datum → List ℕ
ok_line form = text_of (codes "ok ") (event_of form)

abbrev pub redundant_line : Datum → List ℕ
redundant_line form = text_of (codes "redundant ") (event_of form)

abbrev pub value_line : Val → List ℕ
value_line v = codes "value " ++ (value_text v ++ codes "\n")

-- events are counted from 1, and places from 0
abbrev pub refused_line : ℕ → Refusal → ℕ → List ℕ
refused_line index why place = codes "refused " ++ (decimal index ++ (codes " " ++ (refusal_text why ++ (codes " at " ++ (decimal place ++ codes "\n")))))

-- the lines of the sequent at which the reduction of a condition is stuck: its hypotheses in order, and its goal
abbrev pub hypothesis_line : Tm → List ℕ
hypothesis_line t = codes "hypothesis " ++ (term_text t ++ codes "\n")

abbrev pub goal_line : Tm → List ℕ
goal_line t = codes "goal " ++ (term_text t ++ codes "\n")

abbrev pub leaf_lines : Sequent → List (List ℕ)
leaf_lines leaf = map hypothesis_line leaf.hyps ++ goal_line leaf.goal ∷ []

-- what stands behind the line of a refusal
abbrev pub further_lines : Refusal → List (List ℕ)
further_lines (NotProved condition leaf) = leaf_lines leaf
further_lines _ = []

-- the lines of a refused event
abbrev pub refused_lines : ℕ → Refusal → ℕ → List (List ℕ)
refused_lines index why place = refused_line index why place ∷ further_lines why
