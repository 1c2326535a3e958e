-- Hypotheses as lists, and what they decide.
use Rattle.std.specs.Prelude.{Bool, false, not, ◌||◌, codes, List, Option, Some, None}
use Rattle.std.specs.List.{list_any, filter}
use Rattle.std.specs.Option.{option_copied}
use Rattle.lisp_data.specs.Values.{Sym, nil, same_val}
use Rattle.terms.specs.Terms.{Tm, Var, Quote, Call, same_tm}
use Rattle.terms.specs.Measures.{call1}
use Rattle.reduction.specs.declared.hyps.Others.{Others}

-- `(not t)`
abbrev pub negation : Tm → Tm
negation t = call1 (codes "NOT") t

-- `'nil`
abbrev pub quoted_nil : Tm
quoted_nil = Quote nil

-- `'t`
abbrev pub quoted_t : Tm
quoted_t = Quote (Sym (codes "T"))

abbrev pub has : List Tm → Tm → Bool
has hs t = list_any (same_tm t) hs

-- all but this term
abbrev pub without : List Tm → Tm → List Tm
without hs t = filter (λ u. not (same_tm t u)) hs

abbrev pub all_but : List Tm → Option Tm → List Tm
all_but hs None = hs
all_but hs (Some t) = without hs t

-- the hypotheses that count
abbrev pub left : Others → List Tm
left o = all_but o.hyps.now (option_copied o.except)

abbrev pub is_true_quote : Tm → Bool
is_true_quote (Quote v) = not (same_val v nil)
is_true_quote (Var x) = false
is_true_quote (Call f ts) = false

-- a quoted value other than NIL, or a hypothesis
abbrev pub proves : List Tm → Tm → Bool
proves hs p = is_true_quote p || has hs p

-- `'nil`, or what a hypothesis denies
abbrev pub refutes : List Tm → Tm → Bool
refutes hs p = same_tm p quoted_nil || has hs (negation p)

abbrev pub is_left_out : Option Tm → Tm → Bool
is_left_out None h = false
is_left_out (Some k) h = same_tm k h
