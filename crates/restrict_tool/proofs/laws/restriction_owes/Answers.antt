use Rattle.restrict_tool.proofs.Owed.{restriction_owes}
use Rattle.restrict_tool.proofs.laws.restriction_owes.Goals as goal

pub returns : goal.returns
returns c = restriction_owes
