use Rattle.soft_vars.proofs.Calls.{calls_are_called}
use Rattle.soft_vars.proofs.laws.calls_are_called.Goals as goal

pub returns : goal.returns
returns c = calls_are_called
