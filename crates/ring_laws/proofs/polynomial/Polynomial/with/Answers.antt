use Rattle.std.proofs.Common.{◌++◌, subst}
use Rattle.ring_laws.specs.view.Held.{held, SameSum}
use Rattle.ring_laws.proofs.Maps.{by_one}
use Rattle.ring_laws.proofs.polynomial.Polynomial.with.Goals as goal

pub returns : goal.returns
returns c =
    subst (λ es. SameSum (held c.add_times.new.self.terms.entries) (held c.args.self.terms.entries ++ es)) (by_one (held c.args.other.now.terms.entries)) c.in_ok-add_times.ensures
