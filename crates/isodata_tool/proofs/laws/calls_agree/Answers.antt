use Rattle.isodata_tool.proofs.Agreement.{calls_agree}
use Rattle.isodata_tool.proofs.laws.calls_agree.Goals as goal

pub returns : goal.returns
returns c = calls_agree
