-- The parts of proofs' texts that are no proofs. What is wrong comes from left to right.
use Rattle.std.specs.Prelude.{ℕ, ◌^◌, Bool, true, ◌&&◌, not, if◌then◌else◌, pos, negsuc, nat_lt, codes, is_some, List, [], ◌∷◌, ◌++◌, Option, Some, None, Ok}
use Rattle.lisp_data.specs.Values.{Name}
use Rattle.lisp_data.specs.Datum.{Datum, IntForm, SymForm, TextForm, PairForm}
use Rattle.term_forms.specs.Names.{is_variable_name}
use Rattle.term_forms.specs.Outcomes.{each}
use Rattle.terms.specs.Primitives.{lookup}
use Rattle.terms.specs.Substitution.{Pairs}
use Rattle.terms.specs.Terms.{Tm}
use Rattle.terms.specs.Worlds.{World, arity}
use Rattle.term_forms.specs.Translation.{Outcome, and_then, map_outcome, translate}
use Rattle.terms.specs.declared.entries.FactName.{FactName}
use Rattle.terms.specs.declared.entries.FactName.TheVariants.{Theorem, Measure}
use Rattle.terms.specs.declared.entries.FunPair.{FunPair}
use Rattle.worlds.specs.Lookups.{find_iso}
use Rattle.proof_texts.specs.Items.{items_of, symbol_of, is_word}
use Rattle.proof_texts.specs.Refused.{bad_proof, or_bad, unknown_name}

-- any variable may stand in a proof's terms
abbrev pub any : Name → Bool
any x = true

abbrev pub term_of : World → Datum → Outcome Tm
term_of W form = translate (arity W.functions) any form

-- the items of a list that has to stand there
abbrev pub list_of : Datum → Outcome (List Datum)
list_of form = or_bad (items_of form)

-- a list of terms
abbrev pub terms_of : World → Datum → Outcome (List Tm)
terms_of W form = and_then (list_of form) (each (term_of W))

-- an integer of 32 bits without a sign
abbrev pub number_of : Datum → Outcome ℕ
number_of (IntForm (pos n)) = if nat_lt n (2 ^ 32) then Ok n else bad_proof
number_of (IntForm (negsuc n)) = bad_proof
number_of (SymForm s) = bad_proof
number_of (TextForm s) = bad_proof
number_of (PairForm a d) = bad_proof

-- a list of numbers
abbrev pub path_of : Datum → Outcome (List ℕ)
path_of form = and_then (list_of form) (each number_of)

-- a variable that has no term yet
abbrev pub new_variable : Pairs → Option Name → Outcome Name
new_variable s None = bad_proof
new_variable s (Some x) = if is_variable_name x && not (is_some (lookup s x)) then Ok x else bad_proof

-- `(x a)`, after the pairs that stand before it
abbrev pub with_pair : World → Pairs → Option (List Datum) → Outcome Pairs
with_pair W s (Some (x ∷ a ∷ [])) = and_then (new_variable s (symbol_of x)) (λ x. map_outcome (λ t. s ++ (x, t) ∷ []) (term_of W a))
with_pair W s _ = bad_proof

abbrev pub with_pairs : World → Pairs → List Datum → Outcome Pairs
with_pairs W s [] = Ok s
with_pairs W s (form ∷ forms) = and_then (with_pair W s (items_of form)) (λ s. with_pairs W s forms)

-- a list of pairs, each of a variable and its term
abbrev pub substitution_of : World → Datum → Outcome Pairs
substitution_of W form = and_then (list_of form) (with_pairs W [])

abbrev pub name_of : Datum → Outcome Name
name_of form = or_bad (symbol_of form)

-- names of the world
abbrev pub known_theorem : World → Name → Outcome Name
known_theorem W n = if is_some (lookup W.theorems n) then Ok n else unknown_name n

abbrev pub known_function : World → Name → Outcome Name
known_function W n = if is_some (arity W.functions n) then Ok n else unknown_name n

abbrev pub known_isomorphism : World → Name → Outcome Name
known_isomorphism W n = if is_some (find_iso W.isos n) then Ok n else unknown_name n

abbrev pub theorem_of : World → Datum → Outcome Name
theorem_of W form = and_then (name_of form) (known_theorem W)

abbrev pub function_of : World → Datum → Outcome Name
function_of W form = and_then (name_of form) (known_function W)

abbrev pub isomorphism_of : World → Datum → Outcome Name
isomorphism_of W form = and_then (name_of form) (known_isomorphism W)

-- `(:measure f k)`
abbrev pub measure_of : World → Option (List Datum) → Outcome FactName
measure_of W (Some (word ∷ f ∷ k ∷ [])) =
    if is_word (codes ":MEASURE") word then and_then (function_of W f) (λ f. map_outcome (Measure f) (number_of k)) else bad_proof
measure_of W _ = bad_proof

-- the name of a theorem, or what a function's measure owes
abbrev pub fact_by : World → Datum → Option Name → Outcome FactName
fact_by W form (Some n) = map_outcome Theorem (known_theorem W n)
fact_by W form None = measure_of W (items_of form)

abbrev pub fact_of : World → Datum → Outcome FactName
fact_of W form = fact_by W form (symbol_of form)

abbrev pub both : {A B : Type 0} → Option A → Option B → Option (A × B)
both (Some a) (Some b) = Some (a, b)
both (Some a) None = None
both None b = None

-- two symbols with a point between them; NIL after a point ends a list
abbrev pub two_symbols : Datum → Option (Name × Name)
two_symbols (PairForm a b) = if is_word (codes "NIL") b then None else both (symbol_of a) (symbol_of b)
two_symbols _ = None

abbrev pub pair_of_names : World → Name × Name → Outcome FunPair
pair_of_names W p =
    and_then (known_function W p.0) (λ v. map_outcome (λ f. record { variable = v; function = f }) (known_function W p.1))

-- `(?f . g)`
abbrev pub function_pair : World → Datum → Outcome FunPair
function_pair W form = and_then (or_bad (two_symbols form)) (pair_of_names W)

-- a list of functions for function variables
abbrev pub functions_of : World → Datum → Outcome (List FunPair)
functions_of W form = and_then (list_of form) (each (function_pair W))
