use Rattle.ring_laws.specs.FormalSums.{negated}
use Rattle.ring_laws.specs.view.Held.{held}
use Rattle.ring_laws.proofs.Expansions.{says_along}
use Rattle.ring_laws.proofs.expansion.Expansion.negated.Goals as goal

pub returns : goal.returns
returns c =
    says_along c.small.result c.args.self.now.norm (held c.in_ok-polynomial.polynomial.terms.entries) (negated (held c.args.self.now.polynomial.terms.entries)) c.in_ok-polynomial.ensures c.small.ensures
