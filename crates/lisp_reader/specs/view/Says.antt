-- What the reader's functions answer.
use Rattle.std.specs.Prelude.{◌≡◌, ℕ, Bool, true, false, Result, Ok, Err}
use Rattle.lisp_data.specs.declared.form.Form.{Form}
use Rattle.lisp_data.specs.Datum.{nil_form}
use Rattle.lisp_data.specs.FormView.{form_of}
use Rattle.lisp_data.specs.Atoms.{Leaf, Point}
use Rattle.lisp_reader.specs.Grammar.{Read, Got, Bad}
use Rattle.lisp_reader.specs.declared.read.ReadError.{ReadError}
use Rattle.lisp_reader.specs.declared.read.ReadError.TheVariants as errors

-- the atom is a single point
abbrev pub is_point : Leaf → Bool
is_point Point = true
is_point _ = false

-- a form and the place of its last byte, or a fault: what was read
abbrev pub SaysRead : Read → Result (Form × ℕ) ReadError → Type 0
SaysRead r (Ok x) = r ≡ Got (form_of x.0) x.1
SaysRead r (Err (errors.Refused code place)) = r ≡ Bad code place
SaysRead r (Err errors.Memory) = Unit {0}

-- the place of a `)`, or a fault: where a list closes, whatever its form is
abbrev pub SaysPlace : Read → Result ℕ ReadError → Type 0
SaysPlace r (Ok n) = r ≡ Got nil_form n
SaysPlace r (Err (errors.Refused code place)) = r ≡ Bad code place
SaysPlace r (Err errors.Memory) = ⊥
