-- The value of a form.
use Rattle.std.specs.Prelude.{◌≡◌, Bool, true, false, ◌||◌, Result, Ok, Err, []}
use Rattle.lisp_data.specs.Values.{Val, IsSmall}
use Rattle.lisp_data.specs.Values as v
use Rattle.lisp_data.specs.ValueView.{val_of}
use Rattle.lisp_data.specs.Datum.{Datum, IntForm, SymForm, TextForm, PairForm}
use Rattle.lisp_data.specs.declared.value.ValueError.{ValueError}
use Rattle.lisp_data.specs.declared.value.ValueError.TheVariants.{TooLarge, NotAValue, Memory}
use Rattle.lisp_data.specs.declared.value.Value.{Value}

-- there is a text in it
abbrev pub has_text : Datum → Bool
has_text (IntForm z) = false
has_text (SymForm s) = false
has_text (TextForm s) = true
has_text (PairForm a d) = has_text a || has_text d

-- the value of a form without a text
abbrev pub value : Datum → Val
value (IntForm z) = v.Int z
value (SymForm s) = v.Sym s
value (TextForm s) = v.Sym []
value (PairForm a d) = v.Pair (value a) (value d)

-- what giving the value of a form answers
abbrev pub SaysValue : Datum → Result Value ValueError → Type 0
SaysValue f (Ok r) = (has_text f ≡ false) × (val_of r ≡ value f) × IsSmall (value f)
SaysValue f (Err TooLarge) = (has_text f ≡ false) × (IsSmall (value f) → ⊥)
SaysValue f (Err NotAValue) = has_text f ≡ true
SaysValue f (Err Memory) = Unit {0}
