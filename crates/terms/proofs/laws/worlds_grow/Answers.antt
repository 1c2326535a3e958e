use Rattle.terms.proofs.WorldsGrow.{worlds_grow}
use Rattle.terms.proofs.laws.worlds_grow.Goals as goal

pub returns : goal.returns
returns c = worlds_grow
