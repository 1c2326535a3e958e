use Rattle.std.proofs.Common.{◌≡◌}
use Rattle.term_forms.specs.Outcomes.{after}
use Rattle.event_forms.proofs.PairLemmas.{pairs_from}
use Rattle.event_forms.proofs.instances.read_pairs.Given as goal

abbrev pub invariant-loop-form : goal.invariant-loop-form
invariant-loop-form l = after l.pairs (pairs_from l.forms l.form-index) ≡ pairs_from l.forms 0
