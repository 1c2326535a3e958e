use Rattle.book_cli.proofs.Values.{values_are_true}
use Rattle.book_cli.proofs.laws.printed_values_are_true.Goals as goal

pub returns : goal.returns
returns c = values_are_true c.printed_is_true.ensures c.value_triples_print.ensures
