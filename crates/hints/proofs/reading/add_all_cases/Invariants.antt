use Rattle.std.proofs.Common.{◌≡◌, map, drop}
use Rattle.lisp_data.specs.FormView.{form_of}
use Rattle.hints.specs.Steps.{through, with_case}
use Rattle.hints.proofs.reading.add_all_cases.Given as goal

abbrev pub invariant-loop-form : goal.invariant-loop-form
invariant-loop-form l =
    let f = with_case l.world in
    through f l.cases (map form_of (drop l.form-index l.forms)) ≡ through f l.initial.cases (map form_of l.forms)
