use Rattle.std.proofs.Common.{◌≡◌, take}
use Rattle.std.specs.List.{zip}
use Rattle.term_forms.specs.Bindings.{names_of}
use Rattle.term_forms.proofs.bindings.images.Given as goal

abbrev pub invariant-loop-i : goal.invariant-loop-i
invariant-loop-i l = l.images ≡ zip (names_of (take l.i l.bindings)) (take l.i l.terms)
