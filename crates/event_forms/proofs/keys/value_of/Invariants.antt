use Rattle.std.proofs.Common.{◌≡◌, length, map}
use Rattle.lisp_data.specs.FormView.{form_of, AllProper}
use Rattle.event_forms.specs.Keys as spec
use Rattle.event_forms.proofs.keys.value_of.Given as goal

abbrev pub invariant-loop-rest : goal.invariant-loop-rest
invariant-loop-rest l = record {
  proper : AllProper l.rest;
  same : spec.value_of l.key (map form_of l.rest) ≡ spec.value_of l.key (map form_of l.parts);
}

abbrev pub decreases-loop-rest : goal.decreases-loop-rest
decreases-loop-rest l = length l.rest
