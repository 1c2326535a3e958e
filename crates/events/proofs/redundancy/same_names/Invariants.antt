use Rattle.std.proofs.Common.{◌≡◌, length, map}
use Rattle.lisp_data.specs.FormView.{form_of, AllProper}
use Rattle.events.specs.Redundancy as spec
use Rattle.events.proofs.redundancy.same_names.Given as goal

abbrev pub invariant-loop-rest : goal.invariant-loop-rest
invariant-loop-rest l = record {
  first : AllProper l.rest;
  second : AllProper l.left;
  same : spec.same_names (map form_of l.rest) (map form_of l.left) ≡ spec.same_names (map form_of l.names) (map form_of l.others);
}

abbrev pub decreases-loop-rest : goal.decreases-loop-rest
decreases-loop-rest l = length l.rest
