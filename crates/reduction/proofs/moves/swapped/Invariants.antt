use Rattle.std.proofs.Common.{◌≡◌, [], map, drop}
use Rattle.terms.specs.Joins.{join}
use Rattle.reduction.specs.Moves.{swap}
use Rattle.reduction.proofs.moves.swapped.Given as goal

abbrev pub invariant-loop-hyp : goal.invariant-loop-hyp
invariant-loop-hyp l =
    join l.all (map (swap l.from l.to) (drop l.hyp-index l.hyp-items)) ≡ join [] (map (swap l.from l.to) l.hyps)
