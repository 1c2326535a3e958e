use Rattle.terms.proofs.Models.{eval_substitute}
use Rattle.terms.proofs.laws.substitution.Goals as goal

pub returns : goal.returns
returns c = eval_substitute
