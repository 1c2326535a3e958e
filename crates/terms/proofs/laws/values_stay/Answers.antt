use Rattle.terms.proofs.Below.{below_use, eval_deeper}
use Rattle.terms.proofs.laws.values_stay.Goals as goal

pub returns : goal.returns
returns c = λ n m le ds I t env v e. below_use _ _ v (eval_deeper n m le ds I t env) e
