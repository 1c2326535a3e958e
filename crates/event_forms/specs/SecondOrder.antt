-- The shapes of function variables and of specifications.
use Rattle.std.specs.Prelude.{ℕ, Bool, ◌&&◌, nat_le, if◌then◌else◌, codes, List, [], ◌∷◌, length, Option, Some, None, Ok}
use Rattle.std.specs.List.{list_all}
use Rattle.lisp_data.specs.Values.{Name}
use Rattle.lisp_data.specs.Datum.{Datum}
use Rattle.term_forms.specs.Translation.{Outcome, and_then, map_outcome}
use Rattle.proof_texts.specs.Items.{items_of, is_word}
use Rattle.event_forms.specs.Places.{is_symbol, name_of, nothing_more}
use Rattle.event_forms.specs.Refused.{bad_part, or_refused}
use Rattle.event_forms.specs.declared.limits.TheConstants.{MAX_FORMALS}

-- A function variable's parts: its name, and how many arguments it takes.
pub record VariableParts : Type 0 where
  pub name : Name
  pub arity : ℕ

-- A specification's parts: its name, its variables and its matrix.
pub record SpecificationParts : Type 0 where
  pub name : Name
  pub variables : List Datum
  pub matrix : Datum

abbrev pub is_star : Datum → Bool
is_star form = is_word (codes "*") form

-- a list of stars says how many arguments there are: one at least, and at most as many as a function has formals
abbrev pub star_count : Option (List Datum) → Outcome ℕ
star_count None = bad_part (codes "signature")
star_count (Some stars) =
    if list_all is_star stars && nat_le 1 (length stars) && nat_le (length stars) MAX_FORMALS then Ok (length stars) else bad_part (codes "signature")

-- the star of the result, and nothing more
abbrev pub result_after : List Datum → Outcome (Unit {0})
result_after [] = bad_part (codes "arguments")
result_after (star ∷ parts) = if is_star star then nothing_more parts else bad_part (codes "signature")

-- `=> *`
abbrev pub arrow_after : List Datum → Outcome (Unit {0})
arrow_after [] = bad_part (codes "arguments")
arrow_after (arrow ∷ parts) = if is_word (codes "=>") arrow then result_after parts else bad_part (codes "signature")

abbrev pub variable : Name → ℕ → VariableParts
variable f k = record { name = f; arity = k }

-- `(* ..) => *`
abbrev pub signature_of : Name → List Datum → Outcome VariableParts
signature_of f [] = bad_part (codes "arguments")
signature_of f (stars ∷ parts) = and_then (star_count (items_of stars)) (λ k. map_outcome (λ _. variable f k) (arrow_after parts))

-- `(defunvar ?f (* ..) => *)`
abbrev pub variable_parts : List Datum → Outcome VariableParts
variable_parts [] = bad_part (codes "arguments")
variable_parts (f ∷ parts) = and_then (name_of f) (λ f. signature_of f parts)

-- a list of variables, or one variable without the list
abbrev pub or_one : Datum → Option (List Datum) → Option (List Datum)
or_one form (Some xs) = Some xs
or_one form None = if is_symbol form then Some (form ∷ []) else None

abbrev pub variables_of : Datum → Outcome (List Datum)
variables_of form = or_refused (bad_part (codes "formals")) (or_one form (items_of form))

abbrev pub specification : Name → Datum → List Datum → SpecificationParts
specification s matrix xs = record { name = s; variables = xs; matrix = matrix }

-- `(forall (x ..) matrix)`
abbrev pub quantified : Name → Option (List Datum) → Outcome SpecificationParts
quantified s (Some (word ∷ xs ∷ matrix ∷ [])) =
    if is_word (codes "FORALL") word
    then map_outcome (specification s matrix) (variables_of xs)
    else bad_part (codes "quantifier")
quantified s _ = bad_part (codes "quantifier")

-- from the quantifier on
abbrev pub quantifier_after : Name → List Datum → Outcome SpecificationParts
quantifier_after s [] = bad_part (codes "arguments")
quantifier_after s (form ∷ parts) = and_then (quantified s (items_of form)) (λ it. map_outcome (λ _. it) (nothing_more parts))

-- `()`, since a specification has no formals
abbrev pub no_formals_after : Name → List Datum → Outcome SpecificationParts
no_formals_after s [] = bad_part (codes "arguments")
no_formals_after s (form ∷ parts) = if is_word (codes "NIL") form then quantifier_after s parts else bad_part (codes "formals")

-- `(defun-sk2 s () (forall (x ..) matrix))`
abbrev pub specification_parts : List Datum → Outcome SpecificationParts
specification_parts [] = bad_part (codes "arguments")
specification_parts (s ∷ parts) = and_then (name_of s) (λ s. no_formals_after s parts)
