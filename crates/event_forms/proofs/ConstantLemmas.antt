-- Forms that stand for values.
use Rattle.std.proofs.Common.{◌<◌, length, arith, ◌≡◌, true, false, Bool, List, [], ◌∷◌, map, Option, Some, None, refl, ap, ◌∙◌, Global, if◌then◌else◌}
use Rattle.std.specs.declared.rc.Rc.{Rc}
use Rattle.lisp_data.specs.Datum.{Datum, chain}
use Rattle.lisp_data.specs.FormView.{form_of, items_of as held_by, IsProper, end_of}
use Rattle.lisp_data.specs.declared.form.Forms.{Forms}
use Rattle.lisp_data.specs.declared.form.Form.{Form, List as Listed}
use Rattle.lisp_data.proofs.Chains.{form_of-int, form_of-sym, form_of-text}
use Rattle.lisp_data.proofs.Proper.{proper-list, form_of-listed}
use Rattle.event_forms.specs.Constants.{number_of}

no_number_first : (xs : List Form) (end : Datum) → 0 < length xs → number_of (chain (map form_of xs) end) ≡ None
no_number_first [] end h = absurd (omega arith)
no_number_first (x ∷ xs) end h = refl

-- a list is no integer
pub number_of-list : (fs : Forms) (t : Option (Rc Form Global)) → IsProper (Listed fs t) → number_of (form_of (Listed fs t)) ≡ None
number_of-list fs t h = ap number_of (form_of-listed fs t) ∙ no_number_first (held_by fs) (end_of t) (proper-list fs t h).some

pub ruleset no_numbers = (number_of-list, form_of-int, form_of-sym, form_of-text)
