use Rattle.isodata_tool.proofs.Owed.{isomorphic_owes}
use Rattle.isodata_tool.proofs.laws.isomorphic_owes.Goals as goal

pub returns : goal.returns
returns c = isomorphic_owes
