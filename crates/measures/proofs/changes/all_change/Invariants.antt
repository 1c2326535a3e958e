use Rattle.std.proofs.Common.{◌≡◌, drop, map}
use Rattle.std.specs.List.{list_all}
use Rattle.measures.specs.view.Calls.{call_of}
use Rattle.measures.specs.DefaultMeasure as spec
use Rattle.measures.proofs.changes.all_change.Given as goal

abbrev pub invariant-loop-call : goal.invariant-loop-call
invariant-loop-call l = list_all (spec.changes l.formals l.formal) (map call_of (drop l.call-index l.calls)) ≡ list_all (spec.changes l.formals l.formal) (map call_of l.calls)
