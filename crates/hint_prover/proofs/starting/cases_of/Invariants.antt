use Rattle.std.proofs.Common.{◌≡◌, ◌++◌, map, drop}
use Rattle.measures.specs.Calls.{call_of}
use Rattle.reduction_proofs.specs.Start.{case_of}
use Rattle.hint_prover.proofs.starting.cases_of.Given as goal

abbrev pub invariant-loop-call : goal.invariant-loop-call
invariant-loop-call l =
    let f = case_of l.reading l.over in
    l.cases ++ map f (map call_of (drop l.call-index l.calls)) ≡ map f (map call_of l.calls)
