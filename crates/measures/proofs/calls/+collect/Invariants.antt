use Rattle.std.proofs.Common.{◌≡◌, ◌+◌, ◌*◌, ◌++◌, map, drop}
use Rattle.terms.specs.Terms.{depth, depths, tms}
use Rattle.terms.specs.Measures.{first_place, recursive_calls_in}
use Rattle.measures.specs.view.Calls.{call_of, place_of}
use Rattle.measures.proofs.calls.+collect.Given as goal

abbrev pub decreases-collect : goal.decreases-collect
decreases-collect l = 3 * depth l.term.now + 1

abbrev pub decreases-collect_at : goal.decreases-collect_at
decreases-collect_at l = 3 * depth l.term.now + 2

abbrev pub decreases-collect_in : goal.decreases-collect_in
decreases-collect_in l = 3 * depths (tms l.args.now)

abbrev pub invariant-collect_in-loop-arg : goal.invariant-collect_in-loop-arg
invariant-collect_in-loop-arg l =
    map call_of l.found ++ recursive_calls_in l.name (place_of l.position) l.tests (tms (drop l.arg-index l.args))
    ≡ map call_of l.initial.found ++ recursive_calls_in l.name (first_place l.name l.called (tms l.args)) l.tests (tms l.args)
