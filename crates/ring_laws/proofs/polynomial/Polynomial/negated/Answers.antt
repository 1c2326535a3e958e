use Rattle.std.proofs.Common.{[], ◌++◌, negsuc, subst}
use Rattle.ring_laws.specs.FormalSums.{times_each}
use Rattle.ring_laws.specs.view.Held.{held, together, SameSum}
use Rattle.ring_laws.proofs.Maps.{by_minus_one}
use Rattle.ring_laws.proofs.polynomial.Polynomial.negated.Goals as goal

pub returns : goal.returns
returns c =
    let es = held c.args.self.now.terms.entries in
    let h = subst (λ zs. SameSum (held c.add_times.new.self.terms.entries) (zs ++ times_each together ([], negsuc 0) es)) c.zero-opposite.ensures c.in_ok-add_times.ensures in
    subst (SameSum (held c.add_times.new.self.terms.entries)) (by_minus_one es) h
