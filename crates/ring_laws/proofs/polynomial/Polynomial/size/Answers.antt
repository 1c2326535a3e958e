use Rattle.std.proofs.Common.{◌∙◌}
use Rattle.ring_laws.proofs.Maps.{size_of}
use Rattle.ring_laws.proofs.polynomial.Polynomial.size.Goals as goal

pub returns : goal.returns
returns c = c.count.ensures ∙ size_of c.args.self.now.terms.entries c.len-entries.ensures.ordered
