use Rattle.std.proofs.Common.{◌≡◌, drop, map}
use Rattle.lisp_data.specs.FormView.{form_of, IsProper}
use Rattle.event_forms.specs.Declarations as spec
use Rattle.event_forms.proofs.declarations.declared_value.Given as goal

abbrev pub invariant-loop-next : goal.invariant-loop-next
invariant-loop-next l = record {
  proper : IsProper l.part;
  same : spec.declared_value l.key (form_of l.part) (map form_of (drop l.next-index l.rest)) ≡ spec.declared_value l.key (form_of l.first) (map form_of l.rest);
}
