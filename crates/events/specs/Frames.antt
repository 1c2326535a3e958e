-- What the handling of events has to know of an event, whatever its kind.
use Rattle.std.specs.Prelude.{ℕ, Bool, List, [], Option, Result, Ok, Err}
use Rattle.lisp_data.specs.Values.{Name, Val}
use Rattle.lisp_data.specs.Datum.{Datum}
use Rattle.terms.specs.Worlds.{World}
use Rattle.term_forms.specs.Translation.{Outcome}
use Rattle.plans.specs.declared.plan.Plan.{Plan}
use Rattle.events.specs.declared.refusal.Refusal.{Refusal}
use Rattle.events.specs.declared.refusal.Refusal.TheVariants.{Coded}

-- something, or why the event is refused
abbrev pub Judged : Type 0 → Type 0
Judged A = Result A Refusal

-- the same of what is refused by a code and a detail alone
abbrev pub coded : {A : Type 0} → Outcome A → Judged A
coded (Ok x) = Ok x
coded (Err e) = Err (Coded e.0 e.1)

-- something goes on, and a refusal stays
abbrev pub goes_on : {A B : Type 0} → Judged A → (A → Judged B) → Judged B
goes_on (Ok x) f = f x
goes_on (Err why) f = Err why

-- what a theorem states: a formula, and the names of the specifications that it assumes
pub record Statement : Type 0 where
  pub formula : Datum
  pub assumed : List Datum

-- when an event repeats an earlier one: never, where their forms are the same, or also where that one is a theorem of this name and states the same
pub data Repeats : Type 0 where
  Never : Repeats
  AsForm : Repeats
  AsTheorem : (name : Name) (statement : Statement) → Repeats

-- the texts of proofs and the steps of hints, each under the name of its condition
pub record Clauses : Type 0 where
  pub proofs : List (Name × Datum)
  pub hows : List (Name × List Datum)

abbrev pub no_clauses : Clauses
no_clauses = record { proofs = []; hows = [] }

-- An event: its word and name as lines have them, its new names in order, when it repeats an earlier one, and how its conditions are proved. The
-- plan is what the event makes and what has to be proved for it, or the first refusal of its own checks; it is asked for where the new names
-- are free. What it makes is shown behind its line, or isn't. An event that prints makes nothing: it gives a value, or a refusal, once its plan
-- has passed.
pub record Frame : Type 0 where
  pub title : List ℕ
  pub shows : Bool
  pub prints : Option (World → Judged Val)
  pub names : List Name
  pub repeats : Repeats
  pub clauses : Clauses
  pub plan : World → Judged Plan
