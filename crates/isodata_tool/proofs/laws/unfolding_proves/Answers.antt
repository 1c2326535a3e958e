use Rattle.isodata_tool.proofs.Unfolding.{unfolding_proves}
use Rattle.isodata_tool.proofs.laws.unfolding_proves.Goals as goal

pub returns : goal.returns
returns c = unfolding_proves
