use Rattle.std.proofs.Common.{◌≡◌, drop}
use Rattle.terms.specs.Primitives.{lookup}
use Rattle.soft_vars.proofs.map.NameMap.find.Given as goal

abbrev pub invariant-loop-pair : goal.invariant-loop-pair
invariant-loop-pair l = lookup l.self l.name ≡ lookup (drop l.pair-index l.pair-items) l.name
