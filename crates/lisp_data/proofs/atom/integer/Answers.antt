use Rattle.lisp_data.proofs.AtomSteps.{too_wide}
use Rattle.lisp_data.proofs.atom.integer.Goals as goal

pub returns-in-Err-clause-value : goal.returns-in-Err-clause-value
returns-in-Err-clause-value c = too_wide c.args.numeral.now c.requires c.in-Err.ensures.value.0
