use Rattle.std.proofs.Common.{◌≡◌}
use Rattle.term_forms.specs.Outcomes.{after}
use Rattle.event_forms.proofs.MapLemmas.{maps_from}
use Rattle.event_forms.proofs.representations.read_maps.Given as goal

abbrev pub invariant-loop-form : goal.invariant-loop-form
invariant-loop-form l = after l.maps (maps_from l.forms l.form-index) ≡ maps_from l.forms 0
