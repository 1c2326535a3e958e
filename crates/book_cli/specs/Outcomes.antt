-- How a run ends.
use Rattle.std.specs.Prelude.{◌≡◌, ℕ, Bool, true, false, List, ⊤, Option, IfSome, Result, Ok, Err}
use Rattle.ports.specs.Streams.{Grows}
use Rattle.ports.specs.ReadAll.{IsWhole}
use Rattle.lisp_reader.specs.Grammar.{book_of}
use Rattle.terms.specs.Sound.{Sound}
use Rattle.book_cli.specs.Report.{Read, report_of, accepts_all, world_made, report, is_accepted, world_of}
use Rattle.book_cli.specs.Values.{ValuesAreTrue}
use Rattle.lisp_reader.specs.declared.limits.TheConstants.{MAX_BOOK}
use Rattle.book_cli.specs.declared.words.Flags.{Flags}
use Rattle.book_cli.specs.declared.status.Status.{Status}
use Rattle.book_cli.specs.declared.status.Status.TheVariants.{Accepted, Refused, Usage, ReadFault, WriteFault, Memory}
use Rattle.book_cli.specs.declared.stop.Stop.{Stop}
use Rattle.book_cli.specs.declared.stop.Stop.TheVariants as stop

abbrev pub code_of : Status → ℕ
code_of Accepted = 0
code_of Refused = 1
code_of Usage = 2
code_of ReadFault = 3
code_of WriteFault = 4
code_of Memory = 5

-- the run was cut off after its words were read
abbrev pub is_cut : Status → Bool
is_cut Accepted = false
is_cut Refused = false
is_cut Usage = false
is_cut ReadFault = true
is_cut WriteFault = true
is_cut Memory = true

-- an end that comes for mode lines alone: memory may run out while words are read
abbrev pub IsOfModeLine : Status → Type 0
IsOfModeLine Accepted = ⊤
IsOfModeLine Refused = ⊤
IsOfModeLine Usage = ⊥
IsOfModeLine ReadFault = ⊤
IsOfModeLine WriteFault = ⊤
IsOfModeLine Memory = ⊥

-- how a report can end
abbrev pub IsReportStatus : Status → Type 0
IsReportStatus Accepted = ⊤
IsReportStatus Refused = ⊤
IsReportStatus Usage = ⊥
IsReportStatus ReadFault = ⊥
IsReportStatus WriteFault = ⊤
IsReportStatus Memory = ⊤

abbrev pub status_after : Result Bool Stop → Status
status_after (Ok true) = Accepted
status_after (Ok false) = Refused
status_after (Err stop.WriteFault) = WriteFault
status_after (Err stop.Memory) = Memory

-- what is told, and the count of faults, are as before
pub record IsUntouched (told_before told_after : Option (List ℕ)) (faults_before faults_after : ℕ) : Type 0 where
  pub told : told_after ≡ told_before
  pub faults : faults_after ≡ faults_before

-- what was read was reported whole, and accepted or not; its world is sound
pub record IsReported (flags : Flags) (before after : Option (List ℕ)) (read : Read) (accepted : Bool) : Type 0 where
  pub written : Grows before after (report_of flags read)
  pub accepts : accepts_all read ≡ accepted
  pub sound : Sound (world_made flags read)

-- The whole book was read, where it is told it was this one and nothing of it is left, its report was written, none of its events is refused,
-- its world is sound, and each value that it prints is the model's.
pub record IsAcceptedRun (flags : Flags) (left left_after held held_after : Option (List ℕ)) : Type 0 where
  pub book : List ℕ
  pub whole : IsWhole left left_after MAX_BOOK book
  pub written : Grows held held_after (report flags book)
  pub none_refused : is_accepted book ≡ true
  pub sound : Sound (world_of flags book)
  pub values : ValuesAreTrue flags (book_of book)

-- What was read is the book's, where the book is told; its whole report was written, with a refused line, the world that it made is sound, and
-- each value that it prints is the model's.
pub record IsRefusedRun (flags : Flags) (left held held_after : Option (List ℕ)) : Type 0 where
  pub read : Read
  pub of_book : IfSome left (λ book. book_of book ≡ read)
  pub written : Grows held held_after (report_of flags read)
  pub one_refused : accepts_all read ≡ false
  pub sound : Sound (world_made flags read)
  pub values : ValuesAreTrue flags read

-- how a run of a mode line ends without a fault: accepted where the book is, else refused; or out of memory
abbrev pub IsSureEnd : (accepted : Bool) → Status → Type 0
IsSureEnd true Accepted = ⊤
IsSureEnd true Refused = ⊥
IsSureEnd false Accepted = ⊥
IsSureEnd false Refused = ⊤
IsSureEnd accepted Usage = ⊥
IsSureEnd accepted ReadFault = ⊥
IsSureEnd accepted WriteFault = ⊥
IsSureEnd accepted Memory = ⊤
