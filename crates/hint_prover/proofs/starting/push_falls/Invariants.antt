use Rattle.std.proofs.Common.{◌≡◌, ◌+◌, ◌++◌, map, drop}
use Rattle.measures.specs.Calls.{call_of}
use Rattle.reduction_proofs.specs.Start.{falls_by}
use Rattle.hint_prover.proofs.starting.push_falls.Given as goal

abbrev pub invariant-loop-i : goal.invariant-loop-i
invariant-loop-i l =
    l.subproofs ++ falls_by l.name l.reading (l.i + 1) (map call_of (drop l.i l.calls))
    ≡ l.initial.subproofs ++ falls_by l.name l.reading 1 (map call_of l.calls)
