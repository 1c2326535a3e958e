use Rattle.isodata_tool.proofs.Turning.{turning_proves}
use Rattle.isodata_tool.proofs.laws.turning_proves.Goals as goal

pub returns : goal.returns
returns c = turning_proves
