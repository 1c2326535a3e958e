use Rattle.std.proofs.Common.{◌≡◌}
use Rattle.events.proofs.FormalLemmas.{joined, names_from}
use Rattle.events.proofs.definitions.read_names.Given as goal

abbrev pub invariant-loop-form : goal.invariant-loop-form
invariant-loop-form l = joined l.names (names_from l.forms l.form-index) ≡ names_from l.forms 0
