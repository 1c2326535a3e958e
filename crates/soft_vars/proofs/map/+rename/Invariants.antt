use Rattle.std.proofs.Common.{◌≡◌, ◌+◌, ◌*◌, map, take}
use Rattle.terms.specs.Terms.{depth, depths, tms}
use Rattle.terms.specs.Maps.{rename}
use Rattle.soft_vars.proofs.map.+rename.Given as goal

abbrev pub decreases-instantiate_term : goal.decreases-instantiate_term
decreases-instantiate_term l = 2 * depth l.term.now + 1

abbrev pub decreases-instantiate_terms : goal.decreases-instantiate_terms
decreases-instantiate_terms l = 2 * depths (tms l.terms.now)

abbrev pub invariant-instantiate_terms-loop-term : goal.invariant-instantiate_terms-loop-term
invariant-instantiate_terms-loop-term l = l.images ≡ map (rename l.map) (take l.term-index l.terms)
