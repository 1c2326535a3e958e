use Rattle.std.proofs.Common.{◌≡◌, map, drop}
use Rattle.lisp_data.specs.FormView.{form_of}
use Rattle.hints.specs.Steps.{through, with_expanded}
use Rattle.hints.proofs.reading.add_all_expanded.Given as goal

abbrev pub invariant-loop-form : goal.invariant-loop-form
invariant-loop-form l =
    let f = with_expanded l.world in
    through f l.calls (map form_of (drop l.form-index l.forms)) ≡ through f l.initial.calls (map form_of l.forms)
