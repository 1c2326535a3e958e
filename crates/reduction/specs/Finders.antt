-- What becomes of one term, by the hypotheses that count.
use Rattle.std.specs.Prelude.{Bool, true, false, not, is_some, ◌&&◌, ◌||◌, ◌==◌, length, bytes_eq, codes, List, [], ◌∷◌, pos, Option, Some, None, if◌then◌else◌}
use Rattle.lisp_data.specs.Values.{Name, Val, Int}
use Rattle.terms.specs.Terms.{Tm, Var, Quote, Call, Tms, Done, More, count, same_tm, substitute, by_args}
use Rattle.terms.specs.Definitions.{find}
use Rattle.terms.specs.Evaluation.{then_with}
use Rattle.terms.specs.Measures.{mentions, call1, call2}
use Rattle.terms.specs.Worlds.{World, is_in}
use Rattle.terms.specs.declared.definition.Definition.{Definition}
use Rattle.evaluator.specs.Counted.{Outcome, Gives, Stops, evaluated}
use Rattle.ring_laws.specs.Expressions.{is_arithmetic}
use Rattle.ring_laws.specs.Limits.{excess_of}
use Rattle.ring_laws.specs.Polynomials.{same_polynomial}
use Rattle.reduction.specs.declared.found.Found.{Found}
use Rattle.reduction.specs.declared.found.Reason.TheVariants.{ByTrue, ByFalse, Refuted, Valued, Opened, Equated, SamePolynomial, Tested}
use Rattle.reduction.specs.declared.kinds.How.{How}
use Rattle.reduction.specs.Finding.{or_else, only, when, first, of_two, of_three, is_call}
use Rattle.reduction.specs.Found.{becomes}
use Rattle.reduction.specs.Hyps.{negation, quoted_nil, quoted_t, has, proves, refutes, is_left_out}

-- Decide: an `if` becomes the branch that its test decides; a call that a hypothesis denies becomes `'nil`
abbrev pub decide : List Tm → Tm → Option Found
decide hs t = or_else
    (then_with (of_three (codes "IF") t) (λ e. or_else
    (when (proves hs e.0) (becomes e.1 ByTrue))
    (when (refutes hs e.0) (becomes e.2 ByFalse))))
    (when (is_call t && has hs (negation t)) (becomes quoted_nil Refuted))

abbrev pub is_quoted : Tm → Bool
is_quoted (Var x) = false
is_quoted (Quote v) = true
is_quoted (Call f ts) = false

abbrev pub are_quoted : Tms → Bool
are_quoted Done = true
are_quoted (More t ts) = is_quoted t && are_quoted ts

-- a call whose arguments are all quoted
abbrev pub is_quoted_call : Tm → Bool
is_quoted_call (Var x) = false
is_quoted_call (Quote v) = false
is_quoted_call (Call f ts) = are_quoted ts

abbrev pub given : Outcome → Option Val
given (Gives v c) = Some v
given (Stops r) = None

-- the value of a term, where counted evaluation gives one
unfoldable pub value_of : World → Tm → Option Val
value_of W t = given (evaluated W.functions.defs t)

-- Ground call: a call on quoted arguments becomes its value
abbrev pub ground : World → Tm → Option Found
ground W t = only (is_quoted_call t) (then_with (value_of W t) (λ v. Some (becomes (Quote v) Valued)))

-- the functions whose calls are opened without a hint; shut, since each goal would hold all of them
unfoldable pub plain_names : List Name
plain_names =
    codes "IMPLIES" ∷ codes "IFF" ∷ codes "ATOM" ∷ codes "ENDP" ∷ codes "NULL" ∷ codes "BOOLEANP" ∷ codes "ACL2-NUMBERP"
    ∷ codes "ZP" ∷ codes "NATP" ∷ codes "POSP" ∷ codes "NFIX" ∷ codes "IFIX" ∷ codes "FIX" ∷ []

-- whether a call of f may be opened: one of `not` where it isn't a whole hypothesis
abbrev pub opens : How → Bool → Name → Tm → Bool
opens how whole f t =
    is_in plain_names f || is_in how.opened f || has how.expanded t || (bytes_eq f (codes "NOT") && not whole)

abbrev pub body_of : Tms → Definition → Tm
body_of ts d = substitute (by_args d.formals ts) d.body

abbrev pub opened_by : Tms → Option Definition → Option Found
opened_by ts None = None
opened_by ts (Some d) = when (length d.formals == count ts) (becomes (body_of ts d) Opened)

-- Definition: a call that may be opened becomes the body of its function
abbrev pub definition : World → How → Bool → Tm → Option Found
definition W how whole (Var x) = None
definition W how whole (Quote v) = None
definition W how whole (Call f ts) = only (opens how whole f (Call f ts)) (opened_by ts (find W.functions.defs f))

-- the first term is the second, or stands in it
abbrev mutual
  pub is_part : Tm → Tm → Bool
  is_part a (Var x) = same_tm a (Var x)
  is_part a (Quote v) = same_tm a (Quote v)
  is_part a (Call f ts) = same_tm a (Call f ts) || is_part_of a ts

  pub is_part_of : Tm → Tms → Bool
  is_part_of a Done = false
  is_part_of a (More u us) = is_part a u || is_part_of a us

-- t becomes the right side where the left one is a call that isn't in it, and the left one where only the right is a call
abbrev pub by_sides : Tm → Tm → Tm × Tm → Option Found
by_sides t h e = or_else
    (when (same_tm e.0 t && is_call e.0 && not (is_part e.0 e.1)) (becomes e.1 (Equated h)))
    (when (same_tm e.1 t && not (is_call e.0) && is_call e.1) (becomes e.0 (Equated h)))

abbrev pub by_equation : Tm → Tm → Option Found
by_equation t h = then_with (of_two (codes "EQUAL") h) (by_sides t h)

-- the same, where the hypothesis isn't left out
abbrev pub by_other : Option Tm → Tm → Tm → Option Found
by_other k t h = if is_left_out k h then None else by_equation t h

-- Equation on a call: a call becomes what a hypothesis says that it is equal to
abbrev pub on_call : List Tm → Tm → Option Found
on_call hs t = first (by_equation t) hs

-- an arithmetic term, or an integer by a hypothesis
abbrev pub is_side : List Tm → Tm → Bool
is_side hs a = is_arithmetic a || has hs (call1 (codes "INTEGERP") a)

-- a side as an arithmetic term: an integer is the sum of 0 and it
abbrev pub side : Tm → Tm
side a = if is_arithmetic a then a else call2 (codes "BINARY-+") (Quote (Int (pos 0))) a

-- the same polynomial, within the limits of a comparison
abbrev pub are_same : Tm → Tm → Bool
are_same a b = not (is_some (excess_of a b)) && same_polynomial a b

-- Polynomials: an equation of the same polynomial becomes `'t`
abbrev pub by_polynomials : List Tm → Tm → Option Found
by_polynomials hs t =
    then_with (of_two (codes "EQUAL") t) (λ e.
    when (is_side hs e.0 && is_side hs e.1 && are_same (side e.0) (side e.1)) (becomes quoted_t SamePolynomial))

-- Split: the test of an `if`, where it has no `if` in it
abbrev pub test_of : Tm → Option Found
test_of t = then_with (of_three (codes "IF") t) (λ e. when (not (mentions (codes "IF") e.0)) (becomes e.0 Tested))
