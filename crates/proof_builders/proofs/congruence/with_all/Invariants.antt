use Rattle.std.proofs.Common.{◌≡◌, ◌++◌, drop}
use Rattle.proof_builders.proofs.congruence.with_all.Given as goal

abbrev pub invariant-loop-term : goal.invariant-loop-term
invariant-loop-term l = l.all ++ drop l.term-index l.more ≡ l.terms ++ l.more
