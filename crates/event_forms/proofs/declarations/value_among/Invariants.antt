use Rattle.std.proofs.Common.{◌≡◌, drop, map}
use Rattle.lisp_data.specs.FormView.{form_of}
use Rattle.event_forms.specs.Declarations as spec
use Rattle.event_forms.proofs.declarations.value_among.Given as goal

abbrev pub invariant-loop-declaration : goal.invariant-loop-declaration
invariant-loop-declaration l = spec.value_among l.key (map form_of (drop l.declaration-index l.declarations)) ≡ spec.value_among l.key (map form_of l.declarations)
