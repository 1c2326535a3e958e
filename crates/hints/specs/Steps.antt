-- What hint steps ask for, or the first refusal, from left to right.
use Rattle.std.specs.Prelude.{ℕ, ℤ, Bool, true, not, ◌&&◌, ◌==◌, ◌^◌, nat_lt, pos, negsuc, is_some, if◌then◌else◌, codes, List, [], ◌∷◌, ◌++◌, length, Option, Some, None, Ok, Err}
use Rattle.std.specs.Option.{option_map}
use Rattle.lisp_data.specs.Values.{Name}
use Rattle.lisp_data.specs.Datum.{Datum, IntForm, SymForm, TextForm, PairForm}
use Rattle.terms.specs.Terms.{Tm, Var, Quote, Call, substitute}
use Rattle.terms.specs.Primitives.{lookup}
use Rattle.terms.specs.Substitution.{Pairs, by_pairs}
use Rattle.terms.specs.Definitions.{find}
use Rattle.terms.specs.Measures.{mentions}
use Rattle.terms.specs.Evaluation.{then_with}
use Rattle.terms.specs.Worlds.{World, arity, is_in}
use Rattle.terms.specs.declared.definition.Definition.{Definition}
use Rattle.terms.specs.declared.sequent.Sequent.{Sequent}
use Rattle.terms.specs.declared.entries.FunPair.{FunPair}
use Rattle.terms.specs.declared.entries.Specification.{Specification}
use Rattle.terms.specs.Instances.{instance_map, sequent_terms, renamed_sequent}
use Rattle.term_forms.specs.Names.{is_variable_name}
use Rattle.term_forms.specs.Translation.{Outcome, and_then, map_outcome, translate}
use Rattle.worlds.specs.Lookups.{find_spec}
use Rattle.proof_texts.specs.Items.{items_of, symbol_of, is_word}
use Rattle.proof_texts.specs.Parts.{two_symbols}
use Rattle.reduction.specs.declared.found.Source.{Source}
use Rattle.reduction.specs.declared.found.Source.TheVariants.{Axiom as AxiomSource, Theorem as TheoremSource}
use Rattle.reduction.specs.declared.kinds.How.{How}
use Rattle.reduction.specs.declared.rules.Rule.{Rule}
use Rattle.reduction.specs.Hyps.{has}
use Rattle.hints.specs.Facts.{says, all_in, built_in}
use Rattle.hints.specs.Formulas.{rule_of}
use Rattle.hints.specs.Refused.{bad_hint, unknown_name, wrong_kind, wrong_arity, or_bad}
use Rattle.hints.specs.declared.hint.Fact.{Fact}
use Rattle.hints.specs.declared.hint.Fact.TheVariants.{Axiom, Theorem, Instance, Assumed}
use Rattle.hints.specs.declared.hint.Cited.{Cited}
use Rattle.hints.specs.declared.hint.Use.{Use}
use Rattle.hints.specs.declared.hint.Scheme.{Scheme}
use Rattle.hints.specs.declared.hint.Hints.{Hints}

-- what f makes of a state, item after item, or the first refusal
abbrev pub through : {S A : Type 0} → (S → A → Outcome S) → S → List A → Outcome S
through f s [] = Ok s
through f s (x ∷ xs) = and_then (f s x) (λ t. through f t xs)

-- any variable may stand in a hint's terms
abbrev pub any : Name → Bool
any x = true

abbrev pub term_of : World → Datum → Outcome Tm
term_of W d = translate (arity W.functions) any d

abbrev pub name_of : Datum → Outcome Name
name_of d = or_bad (symbol_of d)

-- the definition of a function: a known name without one is of the wrong kind
abbrev pub defined_by : Name → Option ℕ → Option Definition → Outcome Definition
defined_by f k (Some d) = Ok d
defined_by f (Some k) None = wrong_kind f
defined_by f None None = unknown_name f

abbrev pub defined : World → Name → Outcome Definition
defined W f = defined_by f (arity W.functions f) (find W.functions.defs f)

abbrev pub is_recursive : Definition → Bool
is_recursive d = mentions d.name d.body

-- `:unfold`: functions that aren't recursive
abbrev pub with_plain : List Name → Name → Definition → Outcome (List Name)
with_plain names f d = if is_recursive d then bad_hint else Ok (names ++ f ∷ [])

abbrev pub with_opened : World → List Name → Datum → Outcome (List Name)
with_opened W names d = and_then (name_of d) (λ f. and_then (defined W f) (with_plain names f))

-- `:cases`: terms
abbrev pub with_case : World → List Tm → Datum → Outcome (List Tm)
with_case W ts d = map_outcome (λ t. ts ++ t ∷ []) (term_of W d)

-- `:expand`: calls of functions with definitions
abbrev pub called_in : World → Tm → Outcome Definition
called_in W (Var x) = bad_hint
called_in W (Quote v) = bad_hint
called_in W (Call f us) = defined W f

abbrev pub with_expanded : World → List Tm → Datum → Outcome (List Tm)
with_expanded W ts d = and_then (term_of W d) (λ t. map_outcome (λ _. ts ++ t ∷ []) (called_in W t))

-- `:rewrite`: theorems that make rules; a rule is there where its universals are among the condition's
abbrev pub with_made : List Tm → List Rule → Sequent → Option Rule → Outcome (List Rule)
with_made us rules s None = bad_hint
with_made us rules s (Some r) = Ok (if all_in us s.universals then rules ++ r ∷ [] else rules)

abbrev pub with_theorem : List Tm → List Rule → Name → Option Sequent → Outcome (List Rule)
with_theorem us rules n None = unknown_name n
with_theorem us rules n (Some s) = with_made us rules s (rule_of (TheoremSource n) s.goal)

abbrev pub with_rule : World → List Tm → List Rule → Datum → Outcome (List Rule)
with_rule W us rules d = and_then (name_of d) (λ n. with_theorem us rules n (lookup W.theorems n))

-- `:induct`: a recursive function, and as many distinct variables as it takes
abbrev pub with_variable : List Name → Datum → Outcome (List Name)
with_variable xs d = and_then (name_of d) (λ x. if is_variable_name x && not (is_in xs x) then Ok (xs ++ x ∷ []) else bad_hint)

abbrev pub scheme_on : Name → List Name → Definition → Outcome Scheme
scheme_on f xs d =
    if is_recursive d
    then (if length xs == length d.formals then Ok (record { function = f; over = xs }) else wrong_arity f)
    else wrong_kind f

abbrev pub scheme_by : World → Option (List Datum) → Outcome Scheme
scheme_by W None = bad_hint
scheme_by W (Some []) = bad_hint
scheme_by W (Some (f ∷ xs)) = and_then (name_of f) (λ f. and_then (through with_variable [] xs) (λ xs. and_then (defined W f) (scheme_on f xs)))

abbrev pub scheme_of : World → Datum → Outcome Scheme
scheme_of W d = scheme_by W (items_of d)

-- `:use`: an axiom, a theorem, a function instance of one or an assumed specification, and terms for variables
abbrev pub cited : Fact → Tm → Cited
cited f t = record { fact = f; formula = t }

abbrev pub number_in : ℤ → Option ℕ
number_in (pos k) = if nat_lt k (2 ^ 32) then Some k else None
number_in (negsuc k) = None

abbrev pub numbered : World → ℕ → Option Cited
numbered W k = option_map (λ s. cited (Axiom k) s.goal) (says W (AxiomSource k))

abbrev pub by_number : World → ℤ → Outcome Cited
by_number W z = or_bad (then_with (number_in z) (numbered W))

-- a specification is assumed where its matrix is among the condition's universals
abbrev pub assumed : List Tm → Name → Option Specification → Outcome Cited
assumed us n None = unknown_name n
assumed us n (Some s) = if has us s.matrix then Ok (cited (Assumed s.matrix) s.matrix) else unknown_name n

abbrev pub by_name : World → List Tm → Name → Option Sequent → Outcome Cited
by_name W us n None = assumed us n (find_spec W.specifications n)
by_name W us n (Some s) = if all_in us s.universals then Ok (cited (Theorem n) s.goal) else bad_hint

-- `(?f . g)`, after the pairs before it
abbrev pub with_function : List FunPair → Datum → Outcome (List FunPair)
with_function pairs d = map_outcome (λ p. pairs ++ record { variable = p.0; function = p.1 } ∷ []) (or_bad (two_symbols d))

-- a theorem with functions in the place of function variables, where the universals that it then has are among the condition's
abbrev pub instance_with : List Tm → Name → List FunPair → Sequent → Outcome Cited
instance_with us n pairs s = if all_in us s.universals then Ok (cited (Instance n pairs) s.goal) else bad_hint

abbrev pub instance_by : World → List Tm → Name → List FunPair → Sequent → Outcome Cited
instance_by W us n pairs s = and_then (instance_map W (sequent_terms s) pairs) (λ m. instance_with us n pairs (renamed_sequent m s))

abbrev pub instance_of : World → List Tm → Name → List Datum → Option Sequent → Outcome Cited
instance_of W us n ds None = unknown_name n
instance_of W us n ds (Some s) = and_then (through with_function [] ds) (λ pairs. instance_by W us n pairs s)

-- `(n (?f . g) ..)`
abbrev pub instance_from : World → List Tm → Option (List Datum) → Outcome Cited
instance_from W us None = bad_hint
instance_from W us (Some []) = bad_hint
instance_from W us (Some (n ∷ ds)) = and_then (name_of n) (λ n. instance_of W us n ds (lookup W.theorems n))

abbrev pub instance_in : World → List Tm → Datum → Outcome Cited
instance_in W us d = instance_from W us (items_of d)

abbrev pub cited_in : World → List Tm → Datum → Outcome Cited
cited_in W us (IntForm z) = by_number W z
cited_in W us (SymForm n) = by_name W us n (lookup W.theorems n)
cited_in W us (TextForm s) = bad_hint
cited_in W us (PairForm a d) = instance_in W us (PairForm a d)

-- a variable that has no term yet
abbrev pub new_variable : Pairs → Datum → Outcome Name
new_variable s d = and_then (name_of d) (λ x. if is_variable_name x && not (is_some (lookup s x)) then Ok x else bad_hint)

-- `(x a)`, after the pairs before it
abbrev pub pair_by : World → Pairs → Option (List Datum) → Outcome Pairs
pair_by W s (Some (x ∷ a ∷ [])) = and_then (new_variable s x) (λ x. map_outcome (λ t. s ++ (x, t) ∷ []) (term_of W a))
pair_by W s _ = bad_hint

abbrev pub with_pair : World → Pairs → Datum → Outcome Pairs
with_pair W s d = pair_by W s (items_of d)

abbrev pub pairs_of : World → Datum → Outcome Pairs
pairs_of W d = and_then (or_bad (items_of d)) (through (with_pair W) [])

-- the fact under the substitution
abbrev pub use_under : Cited → Pairs → Use
use_under c s = record { fact = c.fact; s = s; hyp = substitute (by_pairs s) c.formula }

abbrev pub use_by : World → List Tm → List Datum → Outcome Use
use_by W us (n ∷ s ∷ []) = and_then (cited_in W us n) (λ c. map_outcome (use_under c) (pairs_of W s))
use_by W us _ = bad_hint

-- the hints with what a step asks for, by its word; at most one asks for an induction
abbrev pub with_scheme : World → Hints → List Datum → Outcome Hints
with_scheme W h (d ∷ []) = if is_some h.induct then bad_hint else map_outcome (λ s. record h { induct = Some s }) (scheme_of W d)
with_scheme W h _ = bad_hint

abbrev pub with_use : World → List Tm → Hints → List Datum → Outcome Hints
with_use W us h ds = map_outcome (λ u. record h { uses = h.uses ++ u ∷ [] }) (use_by W us ds)

abbrev pub with_how : Hints → How → Hints
with_how h how = record h { how = how }

abbrev pub with_cases : World → Hints → List Datum → Outcome Hints
with_cases W h ds = map_outcome (λ ts. with_how h (record h.how { cases = ts })) (through (with_case W) h.how.cases ds)

abbrev pub with_names : World → Hints → List Datum → Outcome Hints
with_names W h ds = map_outcome (λ xs. with_how h (record h.how { opened = xs })) (through (with_opened W) h.how.opened ds)

abbrev pub with_calls : World → Hints → List Datum → Outcome Hints
with_calls W h ds = map_outcome (λ ts. with_how h (record h.how { expanded = ts })) (through (with_expanded W) h.how.expanded ds)

abbrev pub with_rules : World → List Tm → Hints → List Datum → Outcome Hints
with_rules W us h ds = map_outcome (λ rs. with_how h (record h.how { rules = rs })) (through (with_rule W us) h.how.rules ds)

abbrev pub with_word : World → List Tm → Hints → Datum → List Datum → Outcome Hints
with_word W us h w ds =
    if is_word (codes ":INDUCT") w then with_scheme W h ds
    else if is_word (codes ":USE") w then with_use W us h ds
    else if is_word (codes ":CASES") w then with_cases W h ds
    else if is_word (codes ":UNFOLD") w then with_names W h ds
    else if is_word (codes ":EXPAND") w then with_calls W h ds
    else if is_word (codes ":REWRITE") w then with_rules W us h ds
    else bad_hint

abbrev pub with_items : World → List Tm → Hints → Option (List Datum) → Outcome Hints
with_items W us h None = bad_hint
with_items W us h (Some []) = bad_hint
with_items W us h (Some (w ∷ ds)) = with_word W us h w ds

abbrev pub with_step : World → List Tm → Hints → Datum → Outcome Hints
with_step W us h d = with_items W us h (items_of d)

abbrev pub no_hints : World → List Tm → Hints
no_hints W us = record {
  induct = None;
  uses = [];
  how = record { opened = []; expanded = []; cases = []; rules = built_in W us };
}

-- steps, for a condition with these universals
abbrev pub hints_from : World → List Tm → List Datum → Outcome Hints
hints_from W us ds = through (with_step W us) (no_hints W us) ds

-- the steps of a list
abbrev pub hints_of : World → List Tm → Datum → Outcome Hints
hints_of W us d = and_then (or_bad (items_of d)) (hints_from W us)
