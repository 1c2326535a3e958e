-- What may stand in a place of an event.
use Rattle.std.specs.Prelude.{ℕ, Bool, codes, is_some, List, [], ◌∷◌, Ok}
use Rattle.lisp_data.specs.Values.{Name}
use Rattle.lisp_data.specs.Datum.{Datum}
use Rattle.term_forms.specs.Translation.{Outcome}
use Rattle.proof_texts.specs.Items.{items_of, symbol_of, text_of}
use Rattle.event_forms.specs.Refused.{bad_part, or_refused}

abbrev pub is_symbol : Datum → Bool
is_symbol form = is_some (symbol_of form)

abbrev pub name_of : Datum → Outcome Name
name_of form = or_refused (bad_part (codes "name")) (symbol_of form)

abbrev pub formals_of : Datum → Outcome (List Datum)
formals_of form = or_refused (bad_part (codes "formals")) (items_of form)

-- a string in a place where one has to stand
abbrev pub string_of : Datum → Outcome (List ℕ)
string_of form = or_refused (bad_part (codes "arguments")) (text_of form)

-- no part is left
abbrev pub nothing_more : List Datum → Outcome (Unit {0})
nothing_more [] = Ok tt
nothing_more (p ∷ ps) = bad_part (codes "arguments")
