-- Forms as lists of forms.
use Rattle.std.specs.Prelude.{ℕ, Bool, false, if◌then◌else◌, bytes_eq, codes, List, [], ◌∷◌, Option, Some, None, option_map}
use Rattle.std.specs.Option.{option_map_or}
use Rattle.lisp_data.specs.Values.{Name}
use Rattle.lisp_data.specs.Datum.{Datum, IntForm, SymForm, TextForm, PairForm}

-- the items of a list without a point
abbrev pub items_of : Datum → Option (List Datum)
items_of (IntForm z) = None
items_of (SymForm s) = if bytes_eq s (codes "NIL") then Some [] else None
items_of (TextForm s) = None
items_of (PairForm a d) = option_map (λ items. a ∷ items) (items_of d)

abbrev pub symbol_of : Datum → Option Name
symbol_of (SymForm s) = Some s
symbol_of _ = None

-- what a string holds
abbrev pub text_of : Datum → Option (List ℕ)
text_of (TextForm s) = Some s
text_of _ = None

abbrev pub is_word : List ℕ → Datum → Bool
is_word word form = option_map_or (λ s. bytes_eq s word) (symbol_of form) false
