use Rattle.terms.specs.Terms.{depth}
use Rattle.ring_laws.proofs.expansion.+expand.Given as goal

abbrev pub decreases-expand : goal.decreases-expand
decreases-expand l = depth l.term.now
