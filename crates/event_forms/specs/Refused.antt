-- Refusals of forms: a code, and what is wrong.
use Rattle.std.specs.Prelude.{◌≡◌, ℕ, List, Option, Some, None, Result, Ok, Err}
use Rattle.lisp_data.specs.Values.{Name}
use Rattle.lisp_data.specs.declared.code.Code.{Code}
use Rattle.lisp_data.specs.declared.code.Code.TheVariants.{NotAnEvent, BadForm, KeyNotKnown, BookNotKnown}
use Rattle.lisp_data.specs.declared.detail.Detail.{Detail}
use Rattle.lisp_data.specs.declared.detail.Detail.TheVariants as detail
use Rattle.term_forms.specs.Translation.{Outcome}
use Rattle.event_forms.specs.declared.errors.EventError.{EventError}
use Rattle.event_forms.specs.declared.errors.EventError.TheVariants.{Refused, Memory}

-- the form is no event, or one that isn't there yet
abbrev pub not_an_event : {A : Type 0} → Outcome A
not_an_event = Err (NotAnEvent, detail.Absent)

-- a part of an event has another shape; the word tells which
abbrev pub bad_part : {A : Type 0} → List ℕ → Outcome A
bad_part word = Err (BadForm, detail.Word word)

-- a key is given a second time, or its value is wrong or absent
abbrev pub bad_key : {A : Type 0} → Name → Outcome A
bad_key key = Err (BadForm, detail.Name key)

abbrev pub unknown_key : {A : Type 0} → Name → Outcome A
unknown_key key = Err (KeyNotKnown, detail.Name key)

abbrev pub unknown_book : {A : Type 0} → List ℕ → Outcome A
unknown_book text = Err (BookNotKnown, detail.Word text)

-- something, or the refusal of what isn't there
abbrev pub or_refused : {A : Type 0} → Outcome A → Option A → Outcome A
or_refused refusal (Some x) = Ok x
or_refused refusal None = refusal

-- an error is the outcome's refusal, or want of memory
abbrev pub IsRefusal : {A : Type 0} → Outcome A → EventError → Type 0
IsRefusal o (Refused code detail) = o ≡ Err (code, detail)
IsRefusal o Memory = Unit {0}

-- the answer is the outcome's: what is read, as it is seen, or its refusal
abbrev pub Says : {A B : Type 0} → (A → B) → Outcome B → Result A EventError → Type 0
Says seen o (Ok x) = o ≡ Ok (seen x)
Says seen o (Err e) = IsRefusal o e

-- what an error says, where it isn't want of memory
abbrev pub IsError : Code → Detail → EventError → Type 0
IsError code detail (Refused c d) = (c ≡ code) × (d ≡ detail)
IsError code detail Memory = Unit {0}
