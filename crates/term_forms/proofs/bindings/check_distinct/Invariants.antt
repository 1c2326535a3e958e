use Rattle.std.proofs.Common.{◌≡◌, take, drop, []}
use Rattle.term_forms.specs.Translation.{distinct_after}
use Rattle.term_forms.specs.Bindings.{names_of}
use Rattle.term_forms.proofs.Bound.{backwards}
use Rattle.term_forms.proofs.bindings.check_distinct.Given as goal

abbrev pub invariant-loop-i : goal.invariant-loop-i
invariant-loop-i l = distinct_after (backwards (take l.i l.bindings) []) (names_of (drop l.i l.bindings)) ≡ distinct_after [] (names_of l.bindings)
