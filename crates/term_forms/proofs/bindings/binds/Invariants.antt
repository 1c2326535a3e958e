use Rattle.std.proofs.Common.{◌≡◌, drop}
use Rattle.terms.specs.Worlds.{is_in}
use Rattle.term_forms.specs.Bindings.{names_of}
use Rattle.term_forms.proofs.bindings.binds.Given as goal

abbrev pub invariant-loop-binding : goal.invariant-loop-binding
invariant-loop-binding l = is_in (names_of (drop l.binding-index l.bindings)) l.name ≡ is_in (names_of l.bindings) l.name
