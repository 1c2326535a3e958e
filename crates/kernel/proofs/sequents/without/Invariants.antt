use Rattle.std.proofs.Common.{◌≡◌, ◌++◌, drop}
use Rattle.kernel.specs.Sequents.{without}
use Rattle.kernel.proofs.sequents.without.Given as goal

abbrev pub invariant-loop-term : goal.invariant-loop-term
invariant-loop-term l = l.rest ++ without (drop l.term-index l.terms) l.other ≡ without l.terms l.other
