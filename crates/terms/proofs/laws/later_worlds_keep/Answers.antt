use Rattle.terms.proofs.Later.{later_worlds_keep}
use Rattle.terms.proofs.laws.later_worlds_keep.Goals as goal

pub returns : goal.returns
returns c = later_worlds_keep
