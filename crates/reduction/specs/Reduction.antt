-- Which step is next, and the whole run, which makes at most so many steps.
use Rattle.std.specs.Prelude.{ℕ, zero, suc, ◌+◌, List, [], ◌∷◌, ◌++◌, slice_get, Option, Some, None}
use Rattle.terms.specs.Terms.{Tm}
use Rattle.terms.specs.Worlds.{World}
use Rattle.reduction.specs.declared.kinds.How.{How}
use Rattle.reduction.specs.declared.kinds.Kind.TheVariants.{Decide, Ground, Rule, Definition, OnCall, Polynomials, Test}
use Rattle.reduction.specs.declared.moves.Subgoal.{Subgoal}
use Rattle.reduction.specs.declared.moves.Move.{Move}
use Rattle.reduction.specs.declared.moves.Move.TheVariants.{Splits}
use Rattle.reduction.specs.declared.run.Made.{Made}
use Rattle.reduction.specs.declared.run.Task.{Task}
use Rattle.reduction.specs.declared.run.Outcome.{Outcome}
use Rattle.reduction.specs.declared.run.Outcome.TheVariants.{Closed, Stuck, TooLong}
use Rattle.reduction.specs.Finding.{or_else}
use Rattle.reduction.specs.Finds.{finds}
use Rattle.reduction.specs.Moves.{close, tidy, enter, rewrite, on_variable, split, after}

-- the first kind that applies, at the first position; nothing where the subgoal is stuck
abbrev pub next : World → How → Subgoal → Option Move
next W how s =
    or_else (close s)
    (or_else (tidy s)
    (or_else (enter s)
    (or_else (rewrite (finds W how Decide) s)
    (or_else (rewrite (finds W how Ground) s)
    (or_else (rewrite (finds W how Rule) s)
    (or_else (rewrite (finds W how Definition) s)
    (or_else (on_variable s)
    (or_else (rewrite (finds W how OnCall) s)
    (or_else (rewrite (finds W how Polynomials) s)
    (split (finds W how Test) s))))))))))

abbrev pub pick : Option Tm → Option Move → Option Move
pick None m = m
pick (Some c) m = Some (Splits c)

-- a split on the next of the terms of `:cases`, else the first kind that applies
abbrev pub step : World → How → Task → Option Move
step W how t = pick (slice_get how.cases t.cases) (next W how t.subgoal)

abbrev pub counted : Option Tm → ℕ → ℕ
counted None k = k
counted (Some c) k = k + 1

-- how many of these terms are split on after the step
abbrev pub cases_after : How → Task → ℕ
cases_after how t = counted (slice_get how.cases t.cases) t.cases

abbrev pub tasks : ℕ → List Subgoal → List Task
tasks k [] = []
tasks k (s ∷ ss) = record { cases = k; subgoal = s } ∷ tasks k ss

-- an outcome with these steps before its own
abbrev pub preceded : List Made → Outcome → Outcome
preceded ms (Closed ns) = Closed (ms ++ ns)
preceded ms (Stuck leaf) = Stuck leaf
preceded ms TooLong = TooLong

abbrev pub made : Move → Subgoal → Outcome → Outcome
made m s o = preceded (record { step = m; subgoal = s } ∷ []) o

-- no step is left
abbrev pub at_limit : Task → Option Move → Outcome
at_limit t None = Stuck t.subgoal
at_limit t (Some m) = TooLong

-- what the step leaves comes first
abbrev pub go_on : How → Task → List Task → (List Task → Outcome) → Option Move → Outcome
go_on how t ts reduced None = Stuck t.subgoal
go_on how t ts reduced (Some m) = made m t.subgoal (reduced (tasks (cases_after how t) (after m t.subgoal) ++ ts))

-- by at most n steps; the first task first, so that branches are taken depth first
abbrev pub reduce : World → How → ℕ → List Task → Outcome
reduce W how zero [] = Closed []
reduce W how zero (t ∷ ts) = at_limit t (step W how t)
reduce W how (suc n) [] = Closed []
reduce W how (suc n) (t ∷ ts) = go_on how t ts (reduce W how n) (step W how t)
