-- The shapes of the parts of forms.
use Rattle.std.specs.Prelude.{bytes_eq, codes, if◌then◌else◌, Option, Some, None}
use Rattle.lisp_data.specs.Datum.{Datum, SymForm, PairForm}

-- the items of a list of two
abbrev pub pair_of : Datum → Option (Datum × Datum)
pair_of (PairForm a (PairForm b (SymForm e))) = if bytes_eq e (codes "NIL") then Some (a, b) else None
pair_of _ = None
