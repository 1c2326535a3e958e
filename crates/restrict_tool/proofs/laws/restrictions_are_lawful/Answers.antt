use Rattle.restrict_tool.proofs.Lawful.{restrictions_are_lawful}
use Rattle.restrict_tool.proofs.laws.restrictions_are_lawful.Goals as goal

pub returns : goal.returns
returns c = restrictions_are_lawful
