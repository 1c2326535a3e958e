use Rattle.isodata_tool.proofs.Alike.{bodies_are_alike}
use Rattle.isodata_tool.proofs.laws.bodies_are_alike.Goals as goal

pub returns : goal.returns
returns c = bodies_are_alike
