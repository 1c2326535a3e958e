use Rattle.std.proofs.Common.{◌≡◌, ◌+◌, ◌*◌, drop}
use Rattle.std.specs.Prelude.{fold}
use Rattle.terms.specs.Terms.{depth, depths, tms}
use Rattle.ring_laws.specs.view.Writes.{of_terms}
use Rattle.ring_laws.proofs.atom.+hash.Given as goal

abbrev pub decreases-hash_term : goal.decreases-hash_term
decreases-hash_term g l = 2 * depth l.term.now + 1

abbrev pub decreases-hash_terms : goal.decreases-hash_terms
decreases-hash_terms g l = 2 * depths (tms l.terms.now)

abbrev pub invariant-hash_terms-loop-term : goal.invariant-hash_terms-loop-term
invariant-hash_terms-loop-term g l = fold g.H.Hasher.write l.state (of_terms (tms (drop l.term-index l.terms))) ≡ fold g.H.Hasher.write l.initial.state (of_terms (tms l.terms))
