-- What is written for a book, and the world that it makes.
use Rattle.std.specs.Prelude.{◌≡◌, ℕ, ◌+◌, Bool, true, false, not, List, [], ◌∷◌, ◌++◌, Option, Some, None, Ok, Err, codes, if◌then◌else◌}
use Rattle.std.specs.Fmt.{decimal}
use Rattle.lisp_data.specs.Datum.{Datum}
use Rattle.lisp_data.specs.declared.code.Code.{Code}
use Rattle.lisp_data.specs.declared.detail.Detail.TheVariants.{Absent}
use Rattle.lisp_reader.specs.Grammar.{book_of}
use Rattle.terms.specs.Worlds.{World}
use Rattle.terms.specs.Sound.{initial_world}
use Rattle.worlds.specs.Entries.{further_theorems}
use Rattle.book_cli.specs.declared.progress.Progress.{Progress}
use Rattle.book_cli.specs.declared.words.Flags.{Flags}
use Rattle.events.specs.declared.refusal.Refusal.TheVariants.{Coded}
use Rattle.events.specs.Lines.{ok_line, redundant_line, value_line, refused_line, refused_lines}
use Rattle.events.specs.Shown.{shown_lines}
use Rattle.events.specs.Verdicts.{Verdict, Accepted, Redundant, Printed, Refused, verdict}

-- forms with the places of their first bytes, and the first fault with its place, or the end
abbrev pub Read : Type 0
Read = List (Datum × ℕ) × Option (Code × ℕ)

-- before the first event
abbrev pub begin : Progress
begin = record { world = initial_world; handled = 0; counted = 0 }

-- a redundant or refused event leaves the world, as a printed value does, and a refused one doesn't count
abbrev pub after : Progress → Verdict → Progress
after p (Accepted next) = record { world = next; handled = p.handled + 1; counted = p.counted + 1 }
after p Redundant = record { world = p.world; handled = p.handled + 1; counted = p.counted + 1 }
after p (Printed v) = record { world = p.world; handled = p.handled + 1; counted = p.counted + 1 }
after p (Refused why) = record { world = p.world; handled = p.handled + 1; counted = p.counted }

abbrev pub is_refusal : Verdict → Bool
is_refusal (Accepted next) = false
is_refusal Redundant = false
is_refusal (Printed v) = false
is_refusal (Refused why) = true

-- the progress after an event, and whether it wasn't refused
pub record IsNext (v : Verdict) (old new : Progress) (accepted : Bool) : Type 0 where
  pub progress : new ≡ after old v
  pub accepts : accepted ≡ not (is_refusal v)

-- the first refusal ends the run, unless it is to continue
abbrev pub goes_on : Bool → Verdict → Bool
goes_on continues v = if is_refusal v then continues else true

-- lines, one after the other
abbrev pub all_lines : List (List ℕ) → List ℕ
all_lines [] = []
all_lines (line ∷ lines) = line ++ all_lines lines

-- the count of theorems leaves out those that each book begins with
abbrev pub last_line : Progress → List ℕ
last_line p = codes "accepted " ++ (decimal p.counted ++ (codes " events " ++ (decimal (further_theorems p.world) ++ codes " theorems\n")))

-- the lines of a form, by its verdict in this world and its index; what an accepted one makes may be asked for
abbrev pub verdict_lines : Flags → World → Verdict → Datum × ℕ → ℕ → List (List ℕ)
verdict_lines flags W (Accepted next) e index = ok_line e.0 ∷ shown_lines flags.shows W e.0
verdict_lines flags W Redundant e index = redundant_line e.0 ∷ []
verdict_lines flags W (Printed v) e index = value_line v ∷ []
verdict_lines flags W (Refused why) e index = refused_lines index why e.1

-- the lines of an event
abbrev pub event_lines : Flags → Progress → Datum × ℕ → List (List ℕ)
event_lines flags p e = verdict_lines flags p.world (verdict p.world e.0) e (p.handled + 1)

-- the lines at the end of what could be read
abbrev pub end_lines : Progress → Option (Code × ℕ) → List ℕ
end_lines p None = last_line p
end_lines p (Some fault) = refused_line (p.handled + 1) (Coded fault.0 Absent) fault.1 ++ last_line p

-- the report of these forms, from some progress on; it is asked for one that goes on after a refusal, or ends with it
abbrev pub report_from : Flags → Progress → List (Datum × ℕ) → Option (Code × ℕ) → List ℕ
report_from flags p [] end = end_lines p end
report_from flags p (e ∷ es) end =
    all_lines (event_lines flags p e)
    ++ (if goes_on flags.continues (verdict p.world e.0) then report_from flags (after p (verdict p.world e.0)) es end else last_line (after p (verdict p.world e.0)))

-- the lines of an event, with the last line where the run ends with it
abbrev pub turn_lines : Flags → Progress → Datum × ℕ → List ℕ
turn_lines flags p e =
    all_lines (event_lines flags p e) ++ (if goes_on flags.continues (verdict p.world e.0) then [] else last_line (after p (verdict p.world e.0)))

-- the world that the forms make
abbrev pub world_from : Flags → Progress → List (Datum × ℕ) → World
world_from flags p [] = p.world
world_from flags p (e ∷ es) = if goes_on flags.continues (verdict p.world e.0) then world_from flags (after p (verdict p.world e.0)) es else p.world

-- no form is refused
abbrev pub all_accepted : Progress → List (Datum × ℕ) → Bool
all_accepted p [] = true
all_accepted p (e ∷ es) = if is_refusal (verdict p.world e.0) then false else all_accepted (after p (verdict p.world e.0)) es

-- all was read, and no form is refused
abbrev pub accepts : Progress → List (Datum × ℕ) → Option (Code × ℕ) → Bool
accepts p es None = all_accepted p es
accepts p es (Some fault) = false

-- the report of what was read
abbrev pub report_of : Flags → Read → List ℕ
report_of flags read = report_from flags begin read.0 read.1

-- it was read to its end, and none of its events is refused
abbrev pub accepts_all : Read → Bool
accepts_all read = accepts begin read.0 read.1

abbrev pub world_made : Flags → Read → World
world_made flags read = world_from flags begin read.0

-- the report of a book's bytes
abbrev pub report : Flags → List ℕ → List ℕ
report flags book = report_of flags (book_of book)

-- the book is read to its end, and none of its events is refused
abbrev pub is_accepted : List ℕ → Bool
is_accepted book = accepts_all (book_of book)

-- the world of a book's bytes
abbrev pub world_of : Flags → List ℕ → World
world_of flags book = world_made flags (book_of book)
