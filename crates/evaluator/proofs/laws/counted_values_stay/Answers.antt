use Rattle.evaluator.proofs.Stay as proved
use Rattle.evaluator.proofs.laws.counted_values_stay.Goals as goal

pub returns : goal.returns
returns c = proved.counted_values_stay
