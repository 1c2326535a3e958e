-- Declarations of functions.
use Rattle.std.specs.Prelude.{ℕ, Bool, ◌||◌, if◌then◌else◌, codes, is_some, List, [], ◌∷◌, Option, Some, None, Ok}
use Rattle.std.specs.List.{list_all}
use Rattle.lisp_data.specs.Datum.{Datum}
use Rattle.term_forms.specs.Translation.{Outcome, and_then}
use Rattle.proof_texts.specs.Items.{items_of, is_word, text_of}
use Rattle.event_forms.specs.Places.{is_symbol}
use Rattle.event_forms.specs.Refused.{bad_part}
use Rattle.event_forms.specs.Keys.{keys, value_of}
use Rattle.event_forms.specs.declared.keys.Keyed.TheVariants.{Function}
use Rattle.event_forms.specs.declared.keys.SeenKeys.{SeenKeys}

-- `(xargs key value ..)`, `(ignore x ..)` or `(ignorable x ..)`, after keys that were seen
abbrev pub declared : SeenKeys → Option (List Datum) → Outcome (SeenKeys)
declared seen None = bad_part (codes "declare")
declared seen (Some []) = bad_part (codes "declare")
declared seen (Some (word ∷ parts)) =
    if is_word (codes "XARGS") word then keys Function seen parts
    else if is_word (codes "IGNORE") word || is_word (codes "IGNORABLE") word then (if list_all is_symbol parts then Ok seen else bad_part (codes "declare"))
    else bad_part (codes "declare")

abbrev pub all_declared : SeenKeys → List Datum → Outcome (SeenKeys)
all_declared seen [] = Ok seen
all_declared seen (d ∷ ds) = and_then (declared seen (items_of d)) (λ seen. all_declared seen ds)

-- a list that begins with DECLARE
abbrev pub declare_list : Option (List Datum) → Option (List Datum)
declare_list None = None
declare_list (Some []) = None
declare_list (Some (word ∷ ds)) = if is_word (codes "DECLARE") word then Some ds else None

abbrev pub of_declare : SeenKeys → Option (List Datum) → Outcome (SeenKeys)
of_declare seen None = bad_part (codes "body")
of_declare seen (Some ds) = all_declared seen ds

-- a part before the body: a string or a declaration
abbrev pub before_body : SeenKeys → Datum → Outcome (SeenKeys)
before_body seen form = if is_some (text_of form) then Ok seen else of_declare seen (declare_list (items_of form))

-- the last part is the body
abbrev pub body_of : SeenKeys → Datum → List Datum → Outcome Datum
body_of seen part [] = Ok part
body_of seen part (p ∷ ps) = and_then (before_body seen part) (λ seen. body_of seen p ps)

-- the keys and values of `(xargs key value ..)`; another declaration has none
abbrev pub xargs_of : Option (List Datum) → List Datum
xargs_of None = []
xargs_of (Some []) = []
xargs_of (Some (word ∷ parts)) = if is_word (codes "XARGS") word then parts else []

-- the first value that is there
abbrev pub or_after : Option Datum → Option Datum → Option Datum
or_after (Some v) o = Some v
or_after None o = o

-- the value of a key among declarations
abbrev pub value_among : List ℕ → List Datum → Option Datum
value_among key [] = None
value_among key (d ∷ ds) = or_after (value_of key (xargs_of (items_of d))) (value_among key ds)

abbrev pub value_in : List ℕ → Option (List Datum) → Option Datum
value_in key None = None
value_in key (Some ds) = value_among key ds

-- the value of a key in the parts before the body
abbrev pub declared_value : List ℕ → Datum → List Datum → Option Datum
declared_value key part [] = None
declared_value key part (p ∷ ps) = or_after (value_in key (declare_list (items_of part))) (declared_value key p ps)
