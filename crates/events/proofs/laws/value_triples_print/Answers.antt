use Rattle.events.proofs.Printed.{value_triples_print}
use Rattle.events.proofs.laws.value_triples_print.Goals as goal

pub returns : goal.returns
returns c = value_triples_print
