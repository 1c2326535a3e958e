-- Events that were accepted before.
use Rattle.std.specs.Prelude.{Bool, true, false, ◌&&◌, ◌||◌, bytes_eq, List, [], ◌∷◌, Option, Some, None, Ok, Err}
use Rattle.lisp_data.specs.Values.{Name}
use Rattle.lisp_data.specs.Datum.{Datum}
use Rattle.terms.specs.Terms.{Tm, same_tm}
use Rattle.terms.specs.Worlds.{World, arity}
use Rattle.term_forms.specs.Translation.{Outcome, translate}
use Rattle.worlds.specs.Events.{has_event, find_defthm}
use Rattle.event_forms.specs.Shapes.{Event, event_of}
use Rattle.proof_texts.specs.Items.{symbol_of}
use Rattle.proof_texts.specs.Parts.{any}
use Rattle.events.specs.Frames.{Statement, Repeats, Never, AsForm, AsTheorem}
use Rattle.events.specs.Kinds.{frame_of}

abbrev pub if_term : Outcome Tm → Option Tm
if_term (Ok t) = Some t
if_term (Err e) = None

-- the term that a formula stands for, if it stands for one
abbrev pub term_of : World → Datum → Option Tm
term_of W formula = if_term (translate (arity W.functions) any formula)

-- both are there, and the same
abbrev pub are_same : Option Tm → Option Tm → Bool
are_same (Some t) (Some u) = same_tm t u
are_same (Some t) None = false
are_same None o = false

-- two formulas stand for the same term
abbrev pub same_formulas : World → Datum → Datum → Bool
same_formulas W a b = are_same (term_of W a) (term_of W b)

abbrev pub is_same_name : Option Name → Option Name → Bool
is_same_name (Some n) (Some m) = bytes_eq n m
is_same_name _ _ = false

-- the same names, in the same order
abbrev pub same_names : List Datum → List Datum → Bool
same_names [] [] = true
same_names (a ∷ xs) (b ∷ ys) = is_same_name (symbol_of a) (symbol_of b) && same_names xs ys
same_names _ _ = false

-- two theorems state the same: they assume the same specifications, and their formulas stand for the same term
abbrev pub same_statements : World → Statement → Statement → Bool
same_statements W a b = same_names a.assumed b.assumed && same_formulas W a.formula b.formula

-- an event is a theorem that states the same
abbrev pub states : World → Statement → Repeats → Bool
states W statement Never = false
states W statement AsForm = false
states W statement (AsTheorem n other) = same_statements W statement other

abbrev pub states_in : World → Statement → Outcome Event → Bool
states_in W statement (Ok event) = states W statement (frame_of event).repeats
states_in W statement (Err e) = false

abbrev pub restates : World → Statement → Option Datum → Bool
restates W statement None = false
restates W statement (Some earlier) = states_in W statement (event_of earlier)

-- an event repeats an earlier one; a theorem also one of its name that states the same
abbrev pub is_redundant : World → Datum → Repeats → Bool
is_redundant W form Never = false
is_redundant W form AsForm = has_event W.events form
is_redundant W form (AsTheorem n statement) = has_event W.events form || restates W statement (find_defthm W.events n)
