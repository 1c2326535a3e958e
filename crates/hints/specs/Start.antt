-- The start of a reduction.
use Rattle.std.specs.Prelude.{ℕ, List, [], ◌∷◌, ◌++◌, map, codes, Option, Some, None}
use Rattle.lisp_data.specs.Values.{Name}
use Rattle.terms.specs.Terms.{Tm, Var, tm_list, substitute}
use Rattle.terms.specs.Definitions.{find}
use Rattle.terms.specs.Joins.{join}
pub use Rattle.terms.specs.Links.{conjunction_from, conjunction}
use Rattle.terms.specs.Measures.{RecursiveCall, recursive_calls, call2}
use Rattle.terms.specs.Primitives.{lookup}
use Rattle.terms.specs.Substitution.{Pairs, by_pairs}
use Rattle.terms.specs.Worlds.{World}
use Rattle.terms.specs.declared.definition.Definition.{Definition}
use Rattle.reduction.specs.declared.moves.Subgoal.{Subgoal}
use Rattle.reduction.specs.declared.run.Outcome.{Outcome}
use Rattle.reduction.specs.Moves.{subgoal}
use Rattle.reduction.specs.Reduction.{reduce}
use Rattle.hints.specs.declared.hint.Hints.{Hints}
use Rattle.hints.specs.declared.hint.Scheme.{Scheme}
use Rattle.hints.specs.declared.hint.Use.{Use}

abbrev pub implication : Tm → Tm → Tm
implication a b = call2 (codes "IMPLIES") a b

-- `(implies h1 (implies h2 .. g))`
abbrev pub folded : List Tm → Tm → Tm
folded [] g = g
folded (h ∷ hs) g = implication h (folded hs g)

abbrev pub bound : Pairs → Name → Tm → Option Tm → Pairs
bound s x t None = s ++ (x, t) ∷ []
bound s x t (Some u) = s

-- terms for names, one for one; the first of a name counts
abbrev pub bind : Pairs → List Name → List Tm → Pairs
bind s [] ts = s
bind s (x ∷ xs) [] = s
bind s (x ∷ xs) (t ∷ ts) = bind (bound s x t (lookup s x)) xs ts

abbrev pub images : Pairs → List Tm → List Tm
images s ts = map (substitute (by_pairs s)) ts

-- the goal at the arguments of a call, where its tests are true; r reads the formals as the variables
abbrev pub hypothesis : Pairs → List Name → Tm → RecursiveCall → Tm
hypothesis r xs g c =
    implication (conjunction (images r c.tests)) (substitute (by_pairs (bind [] xs (images r (tm_list c.args)))) g)

abbrev pub as_variables : Definition → List Name → Pairs
as_variables d xs = bind [] d.formals (map Var xs)

-- the hypotheses are folded into the goal, and there is an induction hypothesis for each recursive call
abbrev pub by_definition : List Name → Subgoal → Definition → Subgoal
by_definition xs s d =
    let g = folded s.hyps s.goal in
    subgoal (join [] (map (hypothesis (as_variables d xs) xs g) (recursive_calls d.name [] d.body))) g

abbrev pub by_defined : List Name → Subgoal → Option Definition → Subgoal
by_defined xs s None = s
by_defined xs s (Some d) = by_definition xs s d

abbrev pub inducted : World → Option Scheme → Subgoal → Subgoal
inducted W None s = s
inducted W (Some i) s = by_defined i.over s (find W.functions.defs i.function)

-- then come the hypotheses of `:use`
abbrev pub with_hyps : List Tm → Subgoal → Subgoal
with_hyps us s = subgoal (join s.hyps us) s.goal

abbrev pub start : World → Hints → Subgoal → Subgoal
start W h s = with_hyps (map (λ u. u.hyp) h.uses) (inducted W h.induct s)

-- the whole reduction of a condition; the terms of `:cases` are split on in it
abbrev pub reduced : World → Hints → ℕ → Subgoal → Outcome
reduced W h n s = reduce W h.how n (record { cases = 0; subgoal = start W h s } ∷ [])
