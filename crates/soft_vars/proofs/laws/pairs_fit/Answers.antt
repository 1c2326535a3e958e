use Rattle.terms.proofs.Fitting.{pairs_fit}
use Rattle.soft_vars.proofs.laws.pairs_fit.Goals as goal

pub returns : goal.returns
returns c = pairs_fit
