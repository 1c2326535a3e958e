-- What the steps of taking a form's value answer.
use Rattle.std.specs.Prelude.{◌≡◌, true, Result, Ok, Err, List, [], ◌∷◌}
use Rattle.std.specs.List.{list_any}
use Rattle.lisp_data.specs.Values.{Val, IsSmall}
use Rattle.lisp_data.specs.Values as v
use Rattle.lisp_data.specs.ValueView.{val_of}
use Rattle.lisp_data.specs.Datum.{Datum}
use Rattle.lisp_data.specs.declared.value.ValueError.{ValueError}
use Rattle.lisp_data.specs.declared.value.ValueError.TheVariants.{TooLarge, NotAValue, Memory}
use Rattle.lisp_data.specs.declared.value.Value.{Value}
use Rattle.lisp_reader.specs.FormValue.{has_text, value}

-- what taking the value of a form answers, where a text may come to light later
abbrev pub SaysBuilt : Datum → Result Value ValueError → Type 0
SaysBuilt f (Ok r) = (val_of r ≡ value f) × IsSmall (value f)
SaysBuilt f (Err TooLarge) = IsSmall (value f) → ⊥
SaysBuilt f (Err NotAValue) = has_text f ≡ true
SaysBuilt f (Err Memory) = Unit {0}

-- the value of a list: those of its items, and what comes after them
abbrev pub value_before : List Datum → Val → Val
value_before [] e = e
value_before (f ∷ fs) e = v.Pair (value f) (value_before fs e)

abbrev pub SaysBefore : List Datum → Val → Result Value ValueError → Type 0
SaysBefore fs e (Ok r) = (val_of r ≡ value_before fs e) × IsSmall (value_before fs e)
SaysBefore fs e (Err TooLarge) = IsSmall (value_before fs e) → ⊥
SaysBefore fs e (Err NotAValue) = list_any has_text fs ≡ true
SaysBefore fs e (Err Memory) = Unit {0}
