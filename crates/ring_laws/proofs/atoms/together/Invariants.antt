use Rattle.std.proofs.Common.{◌≡◌, ◌+◌, ◌++◌, length}
use Rattle.ring_laws.specs.view.Held.{together}
use Rattle.ring_laws.proofs.atoms.together.Given as goal

abbrev pub invariant-both : goal.invariant-both
invariant-both l = l.numbers.items ++ together l.a l.b ≡ together l.initial.a l.initial.b

abbrev pub decreases-both : goal.decreases-both
decreases-both l = length l.a + length l.b
