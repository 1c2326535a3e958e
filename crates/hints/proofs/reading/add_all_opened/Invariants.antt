use Rattle.std.proofs.Common.{◌≡◌, map, drop}
use Rattle.lisp_data.specs.FormView.{form_of}
use Rattle.hints.specs.Steps.{through, with_opened}
use Rattle.hints.proofs.reading.add_all_opened.Given as goal

abbrev pub invariant-loop-form : goal.invariant-loop-form
invariant-loop-form l =
    let f = with_opened l.world in
    through f l.names (map form_of (drop l.form-index l.forms)) ≡ through f l.initial.names (map form_of l.forms)
