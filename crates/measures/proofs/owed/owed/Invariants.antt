use Rattle.std.proofs.Common.{◌≡◌, ◌∷◌, map, take}
use Rattle.terms.specs.Measures as spec
use Rattle.measures.specs.view.Calls.{call_of}
use Rattle.measures.proofs.owed.owed.Given as goal

abbrev pub invariant-loop-call : goal.invariant-loop-call
invariant-loop-call l = l.sequents ≡ spec.is_natural l.measure ∷ map (spec.falls l.formals l.measure) (map call_of (take l.call-index l.calls))
