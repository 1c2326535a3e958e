-- Clauses and the ways of conditions, one at a time.
use Rattle.std.proofs.Common.{◌≡◌, Bool, true, false, ◌&&◌, List, codes, bytes_eq, Option, Some, None, if◌then◌else◌, refl}
use Rattle.lisp_data.specs.Values.{Name}
use Rattle.lisp_data.specs.Datum.{Datum}
use Rattle.event_forms.specs.Clauses.{with_clause}
use Rattle.proof_texts.proofs.ItemLemmas.{proper_at}
use Rattle.plans.specs.declared.plan.Condition.{Condition}
use Rattle.events.specs.Defthm.{of_goal}
use Rattle.events.specs.view.Halts.{of_condition, serves_condition, part_under}
use Rattle.events.specs.Verdicts.{is_condition, are_conditions, are_served, clause_of}

pub conditions-with : (cs : List Condition) (o : Option (Name × Datum)) (ps : List (Name × Datum)) → are_conditions cs (with_clause o ps) ≡ (of_condition cs o && are_conditions cs ps)
conditions-with cs None ps = refl
conditions-with cs (Some c) ps = refl

pub served-with : (cs : List Condition) (o : Option (Name × List Datum)) (hs : List (Name × List Datum)) → are_served cs (with_clause o hs) ≡ (serves_condition cs o && are_served cs hs)
served-with cs None hs = refl
served-with cs (Some c) hs = refl

pub part-there : {A : Type 0} (o : Option (Name × A)) (ps : List (Name × A)) (n : Name) (x : A) → part_under o n ≡ Some x → clause_of (with_clause o ps) n ≡ Some x
part-there None ps n x h = absurd (cc)
part-there (Some c) ps n x h = by_test (bytes_eq n c.0) h
  where
    by_test : (b : Bool) → (if b then Some c.1 else None) ≡ Some x → (if b then Some c.1 else clause_of ps n) ≡ Some x
    by_test true e = e
    by_test false e = absurd (cc)

pub part-after : {A : Type 0} (o : Option (Name × A)) (ps : List (Name × A)) (n : Name) → part_under o n ≡ None → clause_of (with_clause o ps) n ≡ clause_of ps n
part-after None ps n h = refl
part-after (Some c) ps n h = by_test (bytes_eq n c.0) h
  where
    by_test : (b : Bool) → (if b then Some c.1 else None) ≡ None → (if b then Some c.1 else clause_of ps n) ≡ clause_of ps n
    by_test true e = absurd (cc)
    by_test false e = refl

-- what is given for the one condition
pub goal-proved : (cs : List Condition) (text : Datum) (how : Option (List Datum)) → (are_conditions cs (of_goal (Some text)) && are_served cs (of_goal how)) ≡ is_condition cs (codes ":GOAL")
goal-proved cs text None = by_test (is_condition cs (codes ":GOAL"))
  where
    by_test : (b : Bool) → ((b && true) && true) ≡ b
    by_test true = refl
    by_test false = refl
goal-proved cs text (Some steps) = by_test (is_condition cs (codes ":GOAL"))
  where
    by_test : (b : Bool) → ((b && true) && (b && true)) ≡ b
    by_test true = refl
    by_test false = refl

pub goal-hinted : (cs : List Condition) (steps : List Datum) → are_served cs (of_goal (Some steps)) ≡ is_condition cs (codes ":GOAL")
goal-hinted cs steps = by_test (is_condition cs (codes ":GOAL"))
  where
    by_test : (b : Bool) → (b && true) ≡ b
    by_test true = refl
    by_test false = refl

pub ruleset goals = (goal-proved, goal-hinted)

pub ruleset clauses = (proper_at, conditions-with, served-with, part-there, part-after)
