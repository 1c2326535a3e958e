use Rattle.std.proofs.Common.{◌≡◌, [], map, drop}
use Rattle.terms.specs.Substitution.{by_pairs}
use Rattle.terms.specs.Terms.{substitute}
use Rattle.terms.specs.Joins.{join}
use Rattle.reduction.specs.Hyps.{without}
use Rattle.reduction.proofs.moves.put_all.Given as goal

abbrev pub invariant-loop-hyp : goal.invariant-loop-hyp
invariant-loop-hyp l =
    let f = substitute (by_pairs l.s) in
    join l.all (map f (without (drop l.hyp-index l.hyp-items) l.except)) ≡ join [] (map f (without l.hyps l.except))
