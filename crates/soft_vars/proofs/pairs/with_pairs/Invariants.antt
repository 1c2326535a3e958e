use Rattle.std.proofs.Common.{◌≡◌, drop}
use Rattle.terms.specs.Pairs.{with_pairs}
use Rattle.soft_vars.proofs.pairs.with_pairs.Given as goal

abbrev pub invariant-loop-pair : goal.invariant-loop-pair
invariant-loop-pair l = with_pairs l.world l.map (drop l.pair-index l.pair-items) ≡ with_pairs l.world l.fn.begun l.pairs
