use Rattle.std.proofs.Common.{◌≡◌, drop, map}
use Rattle.measures.specs.view.Calls.{call_of}
use Rattle.measures.specs.DefaultMeasure as spec
use Rattle.measures.proofs.defaults.first_changed.Given as goal

abbrev pub invariant-loop-formal : goal.invariant-loop-formal
invariant-loop-formal l = spec.first_changed l.formals (map call_of l.calls) (drop l.formal-index l.formals) ≡ spec.first_changed l.formals (map call_of l.calls) l.formals
