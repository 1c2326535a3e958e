use Rattle.terms.specs.Terms.{depth}
use Rattle.ring_laws.proofs.atoms.+collect.Given as goal

abbrev pub decreases-collect : goal.decreases-collect
decreases-collect l = depth l.term.now
