-- The walk through definitions, and what it comes to.
use Rattle.std.specs.Prelude.{◌≡◌, Bool, true, false, cond, List, [], ◌∷◌, ◌++◌, bytes_eq, Option, Some, None}
use Rattle.std.specs.List.{list_any}
use Rattle.lisp_data.specs.Values.{Name}
use Rattle.indexmap.specs.IndexSet.{contains}
use Rattle.terms.specs.Terms.{Tm, Var, Quote, Call, Tms, Done, More}
use Rattle.terms.specs.Worlds.{World, Each}
use Rattle.terms.specs.Dependence.{function_dependence}
use Rattle.soft_vars.specs.Dependents.{joined}
use Rattle.soft_vars.specs.declared.walk.Task.{Task}
use Rattle.soft_vars.specs.declared.walk.Task.TheVariants.{Visit, Leave}
use Rattle.soft_vars.specs.declared.walk.Walk.{Walk}

-- it is the name that is left out
abbrev pub is_but : Option Name → Name → Bool
is_but None g = false
is_but (Some f) g = bytes_eq f g

-- visits of the functions that the term calls, but for one; the first stands last
abbrev mutual
  pub visits : Option Name → Tm → List Task
  visits but (Var x) = []
  visits but (Quote v) = []
  visits but (Call g ts) = visits_all but ts ++ cond (is_but but g) [] (Visit g ∷ [])

  pub visits_all : Option Name → Tms → List Task
  visits_all but Done = []
  visits_all but (More t ts) = visits_all but ts ++ visits but t

abbrev pub measure_visits : Option Name → Option Tm → List Task
measure_visits but None = []
measure_visits but (Some m) = visits but m

-- what is found once a task is done, where each function has some variables
abbrev pub found_by : (Name → List Name) → Task → List Name → List Name
found_by of_name (Visit f) found = joined found (of_name f)
found_by of_name (Leave f) found = found

-- what is found once all tasks are done, the last of them first
abbrev pub after : (Name → List Name) → List Task → List Name → List Name
after of_name [] found = found
after of_name (t ∷ ts) found = found_by of_name t (after of_name ts found)

-- all of these are found
abbrev pub Covers : List Name → List Name → Type 0
Covers found xs = Each (λ x. list_any (bytes_eq x) found ≡ true) xs

abbrev pub IsReady : (Name → List Name) → Task → List Name → Type 0
IsReady of_name (Visit f) found = Unit {0}
IsReady of_name (Leave f) found = Covers found (of_name f)

-- where it is to be noted that all variables of a function are found, they will be
abbrev pub AreReady : (Name → List Name) → List Task → List Name → Type 0
AreReady of_name [] found = Unit {0}
AreReady of_name (t ∷ ts) found = IsReady of_name t (after of_name ts found) × AreReady of_name ts found

-- with these tasks left the walk comes to these variables
pub record ComesTo (W : World) (all : List Name) (left : List Task) (w : Walk) : Type 0 where
  pub found : after (function_dependence W) left w.found ≡ all
  pub ready : AreReady (function_dependence W) left w.found
  pub done : (f : Name) → list_any (bytes_eq f) w.done.keys ≡ true → Covers w.found (function_dependence W f)

-- the walk goes on from a task that was the next
abbrev pub Follows : World → Task → Walk → Walk → Type 0
Follows W t old new = (all : List Name) → ComesTo W all (old.left.items ++ t ∷ []) old → ComesTo W all new.left.items new

abbrev pub FollowsVisit : World → Name → Walk → Walk → Type 0
FollowsVisit W f old new = Follows W (Visit f) old new
