use Rattle.std.proofs.Common.{◌≡◌, drop, map}
use Rattle.std.specs.List.{list_all}
use Rattle.lisp_data.specs.FormView.{form_of}
use Rattle.event_forms.specs.Places.{is_symbol}
use Rattle.event_forms.proofs.places.all_symbols.Given as goal

abbrev pub invariant-loop-form : goal.invariant-loop-form
invariant-loop-form l = list_all is_symbol (map form_of (drop l.form-index l.forms)) ≡ list_all is_symbol (map form_of l.forms)
