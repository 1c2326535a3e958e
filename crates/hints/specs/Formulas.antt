-- The rule that a formula makes.
use Rattle.std.specs.Prelude.{Bool, false, not, bytes_eq, codes, List, [], ◌∷◌, ◌++◌, Option, Some, None, if◌then◌else◌}
use Rattle.std.specs.List.{list_all}
use Rattle.std.specs.Option.{option_map}
use Rattle.terms.specs.Terms.{Tm, Var, Quote, Call, Tms, Done, More, same_tm}
use Rattle.terms.specs.Evaluation.{then_with}
use Rattle.terms.specs.Variables.{variables_of}
use Rattle.terms.specs.Worlds.{is_in}
use Rattle.reduction.specs.declared.found.Source.{Source}
use Rattle.reduction.specs.declared.rules.Rule.{Rule}
use Rattle.reduction.specs.Finding.{or_else, when, of_one, of_two}
use Rattle.reduction.specs.Hyps.{quoted_nil, quoted_t}

-- the parts of a hypothesis: those of p and of q, where it is `(if p q 'nil)`
abbrev mutual
  pub parts : Tm → List Tm
  parts (Var x) = Var x ∷ []
  parts (Quote v) = Quote v ∷ []
  parts (Call f ts) = if bytes_eq f (codes "IF") then parts_in (Call f ts) ts else Call f ts ∷ []

  pub parts_in : Tm → Tms → List Tm
  parts_in t (More p (More q (More r Done))) = if same_tm r quoted_nil then parts p ++ parts q else t ∷ []
  parts_in t _ = t ∷ []

-- the parts of a1, of a2 and so on in `(implies a1 (implies a2 .. c))`
abbrev mutual
  pub needs : Tm → List Tm
  needs (Var x) = []
  needs (Quote v) = []
  needs (Call f ts) = if bytes_eq f (codes "IMPLIES") then needs_in ts else []

  pub needs_in : Tms → List Tm
  needs_in (More a (More b Done)) = parts a ++ needs b
  needs_in _ = []

-- the c that remains
abbrev mutual
  pub remains : Tm → Tm
  remains (Var x) = Var x
  remains (Quote v) = Quote v
  remains (Call f ts) = if bytes_eq f (codes "IMPLIES") then remains_in (Call f ts) ts else Call f ts

  pub remains_in : Tm → Tms → Tm
  remains_in t (More a (More b Done)) = remains b
  remains_in t _ = t

-- a call of another function than `if`
abbrev pub is_plain_call : Tm → Bool
is_plain_call (Var x) = false
is_plain_call (Quote v) = false
is_plain_call (Call f ts) = not (bytes_eq f (codes "IF"))

-- t is read as it to `'t`
abbrev pub to_t : {A : Type 0} → Tm → Option A → Option (Tm × Tm)
to_t t o = option_map (λ _. (t, quoted_t)) o

abbrev pub equation : Option (Tm × Tm) → Option (Tm × Tm)
equation o = then_with o (λ e. when (is_plain_call e.0) e)

-- What remains, read as an equation: `(equal l r)` with a call l other than of `if`; `(not p)` as p to `'nil`; and a
-- call of `consp`, `integerp`, `symbolp` or `<` as it to `'t`.
abbrev pub reading : Tm → Option (Tm × Tm)
reading t =
    or_else (equation (of_two (codes "EQUAL") t))
    (or_else (option_map (λ p. (p, quoted_nil)) (of_one (codes "NOT") t))
    (or_else (to_t t (of_one (codes "CONSP") t))
    (or_else (to_t t (of_one (codes "INTEGERP") t))
    (or_else (to_t t (of_one (codes "SYMBOLP") t))
    (to_t t (of_two (codes "<") t))))))

-- each variable of the second term is in the first
abbrev pub covers : Tm → Tm → Bool
covers l t = list_all (is_in (variables_of l)) (variables_of t)

abbrev pub rule_by : Source → Tm → Tm × Tm → Option Rule
rule_by k t e = when (covers e.0 t) (record { source = k; needs = needs t; left = e.0; right = e.1 })

-- the rule that a formula makes, if all its variables stand in the left side
unfoldable pub rule_of : Source → Tm → Option Rule
rule_of k t = then_with (reading (remains t)) (rule_by k t)
