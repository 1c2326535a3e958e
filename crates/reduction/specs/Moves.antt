-- Steps on a whole subgoal: which apply, and what becomes of its hypotheses and its goal.
use Rattle.std.specs.Prelude.{Bool, true, false, not, ◌||◌, bytes_eq, codes, List, [], ◌∷◌, map, Option, Some, None, if◌then◌else◌}
use Rattle.lisp_data.specs.Values.{Name}
use Rattle.terms.specs.Terms.{Tm, Var, Quote, Call, Tms, Done, More, same_tm, substitute}
use Rattle.terms.specs.Joins.{with_term, join}
use Rattle.terms.specs.Paths.{put_part}
use Rattle.terms.specs.Substitution.{by_pairs}
use Rattle.terms.specs.Evaluation.{then_with}
use Rattle.reduction.specs.declared.found.Found.{Found}
use Rattle.reduction.specs.declared.moves.Subgoal.{Subgoal}
use Rattle.reduction.specs.declared.moves.Closing.{Closing}
use Rattle.reduction.specs.declared.moves.Closing.TheVariants.{ByQuote, ByHyp, BySame, ByNil, ByBoth}
use Rattle.reduction.specs.declared.moves.Move.{Move}
use Rattle.reduction.specs.declared.moves.Move.TheVariants.{Ends, Drops, Strips, Alters, Turns, Assumes, Denies, Puts, Splits}
use Rattle.reduction.specs.declared.moves.Remains.{Remains}
use Rattle.reduction.specs.declared.moves.Remains.TheVariants.{Closed, One, Two}
use Rattle.reduction.specs.Finding.{or_else, when, first, of_one, of_two}
use Rattle.reduction.specs.Hyps.{negation, quoted_nil, has, without, is_true_quote}
use Rattle.reduction.specs.Seek.{seek}

-- h becomes k, and another term stays
abbrev pub swap : Tm → Tm → Tm → Tm
swap h k u = if same_tm h u then k else u

-- a for the variable x
abbrev pub put : Name → Tm → Tm → Tm
put x a = substitute (by_pairs ((x, a) ∷ []))

abbrev pub subgoal : List Tm → Tm → Subgoal
subgoal hs g = record { hyps = hs; goal = g }

-- What a move leaves of a subgoal. A hypothesis that is there already isn't added again.
abbrev pub after : Move → Subgoal → List Subgoal
after (Ends e) s = []
after (Drops h) s = subgoal (without s.hyps h) s.goal ∷ []
after (Strips h a) s = subgoal (join [] (map (swap h a) s.hyps)) s.goal ∷ []
after (Alters h k r) s = subgoal (join [] (map (swap h k) s.hyps)) s.goal ∷ []
after (Turns g r) s = subgoal s.hyps g ∷ []
after (Assumes a b) s = subgoal (with_term s.hyps a) b ∷ []
after (Denies a) s = subgoal (with_term s.hyps a) quoted_nil ∷ []
after (Puts h x a) s = subgoal (join [] (map (put x a) (without s.hyps h))) (put x a s.goal) ∷ []
after (Splits t) s = subgoal (with_term s.hyps t) s.goal ∷ subgoal (with_term s.hyps (negation t)) s.goal ∷ []

abbrev pub subgoals : Remains → List Subgoal
subgoals Closed = []
subgoals (One s) = s ∷ []
subgoals (Two s t) = s ∷ t ∷ []

abbrev pub both_in : List Tm → Tm → Option Closing
both_in hs p = when (has hs (negation p)) (ByBoth p)

abbrev pub same_sides : Option (Tm × Tm) → Bool
same_sides None = false
same_sides (Some e) = same_tm e.0 e.1

-- `(equal a a)`
abbrev pub is_same_twice : Tm → Bool
is_same_twice t = same_sides (of_two (codes "EQUAL") t)

-- Close: the goal is a quoted value other than NIL, a hypothesis, or `(equal a a)`; or `'nil` is a hypothesis, or a
-- term and its negation are
abbrev pub closing : Subgoal → Option Closing
closing s =
    or_else (when (is_true_quote s.goal) ByQuote)
    (or_else (when (has s.hyps s.goal) ByHyp)
    (or_else (when (is_same_twice s.goal) BySame)
    (or_else (when (has s.hyps quoted_nil) ByNil)
    (first (both_in s.hyps) s.hyps))))

abbrev pub close : Subgoal → Option Move
close s = then_with (closing s) (λ e. Some (Ends e))

abbrev pub tidied : Tm → Option Move
tidied h = or_else
    (when (is_true_quote h) (Drops h))
    (then_with (of_one (codes "NOT") h) (λ b. then_with (of_one (codes "NOT") b) (λ a. Some (Strips h a))))

-- Tidy: a hypothesis that is a quoted value other than NIL goes, and `(not (not a))` becomes a
abbrev pub tidy : Subgoal → Option Move
tidy s = first tidied s.hyps

-- Enter: a goal `(implies a b)` becomes b under a, and `(not a)` becomes `'nil` under a
abbrev pub enter : Subgoal → Option Move
enter s = or_else
    (then_with (of_two (codes "IMPLIES") s.goal) (λ e. Some (Assumes e.0 e.1)))
    (then_with (of_one (codes "NOT") s.goal) (λ a. Some (Denies a)))

-- in a hypothesis it doesn't count as one
unfoldable pub at_hyp : (List Tm → Bool → Tm → Option Found) → List Tm → Tm → Option Move
at_hyp c hs h =
    then_with (seek (c (without hs h)) true h) (λ r.
    then_with (put_part r.path r.found.term h) (λ k. Some (Alters h k r)))

unfoldable pub at_goal : (List Tm → Bool → Tm → Option Found) → List Tm → Tm → Option Move
at_goal c hs g =
    then_with (seek (c hs) false g) (λ r.
    then_with (put_part r.path r.found.term g) (λ k. Some (Turns k r)))

-- the first part that becomes something else: in the hypotheses in order, then in the goal
abbrev pub rewrite : (List Tm → Bool → Tm → Option Found) → Subgoal → Option Move
rewrite c s = or_else (first (at_hyp c s.hyps) s.hyps) (at_goal c s.hyps s.goal)

-- the variable stands in the term
abbrev mutual
  pub occurs : Name → Tm → Bool
  occurs x (Var y) = bytes_eq x y
  occurs x (Quote v) = false
  occurs x (Call f ts) = occurs_in x ts

  pub occurs_in : Name → Tms → Bool
  occurs_in x Done = false
  occurs_in x (More t ts) = occurs x t || occurs_in x ts

abbrev pub variable_name : Tm → Option Name
variable_name (Var x) = Some x
variable_name (Quote v) = None
variable_name (Call f ts) = None

abbrev pub puts : Tm → Tm → Tm → Option Move
puts h a b = then_with (variable_name a) (λ x. when (not (occurs x b)) (Puts h x b))

abbrev pub on_equation : Tm → Option Move
on_equation h = then_with (of_two (codes "EQUAL") h) (λ e. or_else (puts h e.0 e.1) (puts h e.1 e.0))

-- Equation on a variable: a hypothesis `(equal x a)` or `(equal a x)` goes, and x becomes a everywhere, where x isn't in a
abbrev pub on_variable : Subgoal → Option Move
on_variable s = first on_equation s.hyps

unfoldable pub first_test : (List Tm → Bool → Tm → Option Found) → Tm → Option Move
first_test c t = then_with (seek (c []) false t) (λ r. Some (Splits r.found.term))

-- Split: on the first test, in the hypotheses in order, then in the goal
abbrev pub split : (List Tm → Bool → Tm → Option Found) → Subgoal → Option Move
split c s = or_else (first (first_test c) s.hyps) (first_test c s.goal)
