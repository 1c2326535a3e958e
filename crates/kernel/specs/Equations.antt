-- The rules on equations: reflexivity, replace, unfold, if-true, if-false.
use Rattle.std.specs.Prelude.{◌&&◌, ℕ, List, codes, Option, Some, None, if◌then◌else◌}
use Rattle.std.specs.Option.{option_map}
use Rattle.terms.specs.Terms.{Tm, Var, Quote, Call, Tms, same_tm, substitute, by_args}
use Rattle.terms.specs.Paths.{part_at, put_part}
use Rattle.terms.specs.Definitions.{find}
use Rattle.terms.specs.Evaluation.{then_with}
use Rattle.terms.specs.Worlds.{Functions}
use Rattle.terms.specs.declared.definition.Definition.{Definition}
use Rattle.terms.specs.declared.sequent.Sequent.{Sequent}
use Rattle.kernel.specs.Fitting.{fits}
use Rattle.kernel.specs.Sequents.{equation, conditional, negated_of, sides_of, of_goal, with_goal, joined}

-- reflexivity: `(equal a a)`
abbrev pub reflexive : Functions → Tm → Option Sequent
reflexive W a = if fits W a then Some (of_goal (equation a a)) else None

-- replace: p says `(equal a b)`, and q's goal has a at the path, where b is put
abbrev pub replaced : List ℕ → Sequent → Sequent → Option Sequent
replaced path p q =
    then_with (sides_of (codes "EQUAL") p.goal) (λ e.
    then_with (part_at path q.goal) (λ part.
    if same_tm part e.0 then option_map (joined p q) (put_part path e.1 q.goal) else None))

-- the body of a function, where the arguments replace the formals all at once
abbrev pub body_at : Definition → Tms → Tm
body_at d ts = substitute (by_args d.formals ts) d.body

-- the definition of the function that the term calls, and the call's arguments
abbrev pub called : Functions → Tm → Option (Definition × Tms)
called W (Var x) = None
called W (Quote v) = None
called W (Call f ts) = option_map (λ d. (d, ts)) (find W.defs f)

-- unfold: `(equal t body)`, where t is a call of a function with a definition
abbrev pub unfolded : Functions → Tm → Option Sequent
unfolded W t = if fits W t then option_map (λ c. of_goal (equation t (body_at c.0 c.1))) (called W t) else None

-- if true: p says a, so that `(equal (if a b c) b)`
abbrev pub if_true : Functions → Tm → Tm → Sequent → Option Sequent
if_true W b c p = if fits W b && fits W c then Some (with_goal p (equation (conditional p.goal b c) b)) else None

-- if false: p says `(not a)`, so that `(equal (if a b c) c)`
abbrev pub if_false : Functions → Tm → Tm → Sequent → Option Sequent
if_false W b c p =
    then_with (negated_of p.goal) (λ a.
    if fits W b && fits W c then Some (with_goal p (equation (conditional a b c) c)) else None)
