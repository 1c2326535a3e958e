use Rattle.std.proofs.Common.{◌≡◌, drop}
use Rattle.events.specs.Verdicts as spec
use Rattle.events.proofs.clauses.is_condition.Given as goal

abbrev pub invariant-loop-condition : goal.invariant-loop-condition
invariant-loop-condition l = spec.is_condition (drop l.condition-index l.conditions) l.name ≡ spec.is_condition l.conditions l.name
