use Rattle.isodata_tool.proofs.Lawful.{transfers_are_lawful}
use Rattle.isodata_tool.proofs.laws.transfers_are_lawful.Goals as goal

pub returns : goal.returns
returns c = transfers_are_lawful
