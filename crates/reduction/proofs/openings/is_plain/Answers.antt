use Rattle.reduction.specs.Finders.{plain_names}
use Rattle.reduction.proofs.openings.is_plain.Goals as goal

pub returns : goal.returns
unfolding plain_names
returns c = c.is_among.ensures
