use Rattle.std.proofs.Common.{sym}
use Rattle.terms.proofs.Below.{Any}
use Rattle.terms.proofs.Extend.{eval_with}
use Rattle.terms.proofs.laws.later_definitions.Goals as goal

pub returns : goal.returns
returns c = λ W formed d ok n I t fit env. sym (eval_with W formed d ok.fresh I Any n t env fit)
