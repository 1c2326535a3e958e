use Rattle.events.proofs.Printed.{printed_is_true}
use Rattle.events.proofs.laws.printed_is_true.Goals as goal

pub returns : goal.returns
returns c = printed_is_true c.counted_values_are_values.ensures
