use Rattle.std.proofs.Common.{◌≡◌, drop}
use Rattle.terms.specs.Instances.{with_instances, map_from}
use Rattle.soft_vars.proofs.instances.map_from.Given as goal

abbrev pub invariant-loop-name : goal.invariant-loop-name
invariant-loop-name l = with_instances l.world l.pairs l.map (drop l.name-index l.name-items) ≡ map_from l.world l.fn.begun l.pairs l.called.keys
