use Rattle.std.proofs.Common.{◌≡◌, length}
use Rattle.events.specs.view.Halts.{clauses_seen, joined}
use Rattle.events.specs.Verdicts as spec
use Rattle.events.proofs.clauses.read_ways.Given as goal

abbrev pub invariant-loop-rest : goal.invariant-loop-rest
invariant-loop-rest l = joined l.ways (spec.ways l.world (clauses_seen l.clauses) l.rest) ≡ joined l.fn.ways (spec.ways l.world (clauses_seen l.clauses) l.conditions)

abbrev pub decreases-loop-rest : goal.decreases-loop-rest
decreases-loop-rest l = length l.rest
