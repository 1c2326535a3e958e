use Rattle.std.proofs.Common.{◌≡◌, map, drop}
use Rattle.terms.specs.Joins.{join}
use Rattle.hints.proofs.starting.add_uses.Given as goal

abbrev pub invariant-loop-it : goal.invariant-loop-it
invariant-loop-it l = join l.hyps (map (λ u. u.hyp) (drop l.it-index l.uses)) ≡ join l.initial.hyps (map (λ u. u.hyp) l.uses)
