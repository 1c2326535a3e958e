use Rattle.std.proofs.Common.{◌≡◌, take}
use Rattle.std.specs.List.{fold}
use Rattle.lisp_data.specs.view.Automaton.{grown}
use Rattle.lisp_data.specs.declared.atom.Shape.TheVariants.{Start}
use Rattle.lisp_data.proofs.atom.Shape.of.Given as goal

abbrev pub invariant-loop-b : goal.invariant-loop-b
invariant-loop-b l = l.shape ≡ fold grown Start (take l.b-index l.atom)
