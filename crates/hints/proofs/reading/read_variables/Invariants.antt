use Rattle.std.proofs.Common.{◌≡◌, [], map, drop}
use Rattle.lisp_data.specs.FormView.{form_of}
use Rattle.hints.specs.Steps.{through, with_variable}
use Rattle.hints.proofs.reading.read_variables.Given as goal

abbrev pub invariant-loop-form : goal.invariant-loop-form
invariant-loop-form l =
    through with_variable l.names (map form_of (drop l.form-index l.forms)) ≡ through with_variable [] (map form_of l.forms)
