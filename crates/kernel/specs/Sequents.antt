-- The terms and lists of sequents.
use Rattle.std.specs.Prelude.{not, List, [], ◌∷◌, bytes_eq, codes, Option, Some, None, if◌then◌else◌}
use Rattle.std.specs.List.{filter}
use Rattle.lisp_data.specs.Values.{Name}
use Rattle.terms.specs.Terms.{Tm, Var, Quote, Call, Tms, Done, More, same_tm}
pub use Rattle.terms.specs.Joins.{with_term, join, without_repeats}
use Rattle.terms.specs.Evaluation.{then_with}
use Rattle.terms.specs.Measures.{call1, call2, call3}
use Rattle.terms.specs.declared.sequent.Sequent.{Sequent}

-- all but this term
abbrev pub without : List Tm → Tm → List Tm
without ts t = filter (λ u. not (same_tm t u)) ts

-- `(equal a b)`
abbrev pub equation : Tm → Tm → Tm
equation a b = call2 (codes "EQUAL") a b

-- `(not a)`
abbrev pub negation : Tm → Tm
negation a = call1 (codes "NOT") a

-- `(implies a b)`
abbrev pub implication : Tm → Tm → Tm
implication a b = call2 (codes "IMPLIES") a b

-- `(if a b c)`
abbrev pub conditional : Tm → Tm → Tm → Tm
conditional a b c = call3 (codes "IF") a b c

abbrev pub one_of : Tms → Option Tm
one_of (More a Done) = Some a
one_of _ = None

abbrev pub two_of : Tms → Option (Tm × Tm)
two_of (More a (More b Done)) = Some (a, b)
two_of _ = None

-- the arguments of a call of f
abbrev pub args_of : Name → Tm → Option Tms
args_of f (Var x) = None
args_of f (Quote v) = None
args_of f (Call g ts) = if bytes_eq g f then Some ts else None

-- a, where the term is `(not a)`
abbrev pub negated_of : Tm → Option Tm
negated_of t = then_with (args_of (codes "NOT") t) one_of

-- a and b, where the term is `(f a b)`
abbrev pub sides_of : Name → Tm → Option (Tm × Tm)
sides_of f t = then_with (args_of f t) two_of

-- a goal without universals and hypotheses
abbrev pub of_goal : Tm → Sequent
of_goal g = record { universals = []; hyps = []; goal = g }

-- another goal with the universals and the hypotheses of a sequent
abbrev pub with_goal : Sequent → Tm → Sequent
with_goal p g = record { universals = p.universals; hyps = p.hyps; goal = g }

-- a goal with the universals and the hypotheses of two sequents
abbrev pub joined : Sequent → Sequent → Tm → Sequent
joined p q g = record { universals = join p.universals q.universals; hyps = join p.hyps q.hyps; goal = g }
