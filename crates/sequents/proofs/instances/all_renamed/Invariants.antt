use Rattle.std.proofs.Common.{◌≡◌, ◌++◌, drop, map}
use Rattle.terms.specs.Maps.{rename}
use Rattle.sequents.proofs.instances.all_renamed.Given as goal

abbrev pub invariant-loop-term : goal.invariant-loop-term
invariant-loop-term l = l.instances ++ map (rename l.names) (drop l.term-index l.terms) ≡ map (rename l.names) l.terms
