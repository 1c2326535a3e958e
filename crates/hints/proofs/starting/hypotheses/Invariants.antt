use Rattle.std.proofs.Common.{◌≡◌, [], map, drop}
use Rattle.terms.specs.Joins.{join}
use Rattle.measures.specs.Calls.{call_of}
use Rattle.hints.specs.Start.{hypothesis}
use Rattle.hints.proofs.starting.hypotheses.Given as goal

abbrev pub invariant-loop-call : goal.invariant-loop-call
invariant-loop-call l =
    let f = hypothesis l.reading l.over l.goal in
    join l.hyps (map f (map call_of (drop l.call-index l.calls))) ≡ join [] (map f (map call_of l.calls))
