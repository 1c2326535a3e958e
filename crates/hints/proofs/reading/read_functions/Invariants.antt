use Rattle.std.proofs.Common.{◌≡◌, [], map, drop}
use Rattle.lisp_data.specs.FormView.{form_of}
use Rattle.hints.specs.Steps.{through, with_function}
use Rattle.hints.proofs.reading.read_functions.Given as goal

abbrev pub invariant-loop-form : goal.invariant-loop-form
invariant-loop-form l =
    through with_function l.pairs (map form_of (drop l.form-index l.forms)) ≡ through with_function [] (map form_of l.forms)
