-- The values that forms stand for.
use Rattle.std.specs.Prelude.{ℤ, Bool, codes, is_some, if◌then◌else◌, List, [], ◌∷◌, Option, Some, None, option_map}
use Rattle.lisp_data.specs.Values.{Name, Val, Int, Sym}
use Rattle.lisp_data.specs.Datum.{Datum, IntForm}
use Rattle.lisp_reader.specs.FormValue.{has_text, value}
use Rattle.term_forms.specs.Names.{is_constant_name}
use Rattle.term_forms.specs.Translation.{is_small}
use Rattle.proof_texts.specs.Items.{items_of, is_word, symbol_of}

-- the number of an integer
abbrev pub number_of : Datum → Option ℤ
number_of (IntForm z) = Some z
number_of _ = None

-- the value of a form without a text, within the limits of values
abbrev pub small_value : Datum → Option Val
small_value form = if has_text form then None else if is_small (value form) then Some (value form) else None

-- of `(quote v)`, the value of v
abbrev pub quoted_value : Option (List Datum) → Option Val
quoted_value (Some (word ∷ form ∷ [])) = if is_word (codes "QUOTE") word then small_value form else None
quoted_value _ = None

-- T, NIL and keywords are their own values
abbrev pub symbol_value : Name → Option Val
symbol_value s = if is_constant_name s then Some (Sym s) else None

abbrev pub by_symbol : Option Name → Option (List Datum) → Option Val
by_symbol (Some s) items = symbol_value s
by_symbol None items = quoted_value items

abbrev pub by_number : Option ℤ → Datum → Option Val
by_number (Some z) form = Some (Int z)
by_number None form = by_symbol (symbol_of form) (items_of form)

-- the value that a form stands for: an integer, T, NIL, a keyword, or what is quoted
abbrev pub constant_of : Datum → Option Val
constant_of form = by_number (number_of form) form

abbrev pub is_constant : Datum → Bool
is_constant form = is_some (constant_of form)
