use Rattle.std.proofs.Common.{◌≡◌, drop, map}
use Rattle.lisp_data.specs.FormView.{form_of}
use Rattle.event_forms.specs.Declarations.{all_declared}
use Rattle.event_forms.proofs.declarations.read_declarations.Given as goal

abbrev pub invariant-loop-declaration : goal.invariant-loop-declaration
invariant-loop-declaration l = all_declared l.seen (map form_of (drop l.declaration-index l.declarations)) ≡ all_declared l.fn.seen (map form_of l.declarations)
