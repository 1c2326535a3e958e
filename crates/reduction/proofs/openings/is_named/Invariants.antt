use Rattle.std.proofs.Common.{◌≡◌, drop}
use Rattle.terms.specs.Worlds.{is_in}
use Rattle.reduction.proofs.openings.is_named.Given as goal

abbrev pub invariant-loop-other : goal.invariant-loop-other
invariant-loop-other l = is_in (drop l.other-index l.names) l.name ≡ is_in l.names l.name
