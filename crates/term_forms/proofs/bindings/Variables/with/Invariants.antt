use Rattle.std.proofs.Common.{◌≡◌, ◌++◌, take}
use Rattle.term_forms.specs.Bindings.{names_of}
use Rattle.term_forms.proofs.bindings.Variables.with.Given as goal

abbrev pub invariant-loop-binding : goal.invariant-loop-binding
invariant-loop-binding l = l.bound ≡ l.self.bound ++ names_of (take l.binding-index l.bindings)
