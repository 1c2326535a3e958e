use Rattle.std.proofs.Common.{◌++◌, subst}
use Rattle.ring_laws.specs.FormalSums.{times_each, products}
use Rattle.ring_laws.specs.view.Held.{held, together, SameSum}
use Rattle.ring_laws.proofs.Maps.{part_over}
use Rattle.ring_laws.proofs.polynomial.Polynomial.times.Goals as goal

pub loop-monomial-preserved : goal.loop-monomial-preserved
loop-monomial-preserved c =
    let other = held c.args.other.now.terms.entries in
    let all = products together (held c.args.self.now.terms.entries) other in
    part_over (held c.loop-monomial.product.terms.entries) (held c.add_times.new.self.terms.entries)
    (times_each together (c.in-Some.monomial.now.items, c.in-Some.factor.now) other) (products together (held c.next.new.self) other) all
    (subst (λ k. SameSum (held c.add_times.new.self.terms.entries) (held c.loop-monomial.product.terms.entries ++ times_each together (k, c.in-Some.factor.now) other)) c.as_slice.ensures.value c.in_ok-add_times.ensures)
    (subst (λ it. SameSum (held c.loop-monomial.product.terms.entries ++ products together (held it) other) all) c.in-Some.ensures.steps c.loop-monomial.invariant)
