use Rattle.std.proofs.Common.{subst}
use Rattle.ring_laws.specs.FormalSums.{products}
use Rattle.ring_laws.specs.view.Held.{held, together}
use Rattle.ring_laws.specs.view.Expansions.{SaysSum}
use Rattle.ring_laws.proofs.Expansions.{says_along}
use Rattle.ring_laws.proofs.expansion.Expansion.times.Goals as goal

pub returns : goal.returns
returns c =
    let all = products together (held c.args.self.now.polynomial.terms.entries) (held c.args.other.now.polynomial.terms.entries) in
    subst (λ n. SaysSum c.small.result n all) c.in-Some.ensures.1 (says_along c.small.result c.in-Some.norm (held c.in_ok-polynomial.polynomial.terms.entries) all c.in_ok-polynomial.ensures c.small.ensures)
