use Rattle.restrict_tool.proofs.Unfolding.{unfolding_proves}
use Rattle.restrict_tool.proofs.laws.unfolding_proves.Goals as goal

pub returns : goal.returns
returns c = unfolding_proves
