use Rattle.std.proofs.Common.{◌≡◌, [], map, drop}
use Rattle.lisp_data.specs.FormView.{form_of}
use Rattle.hints.specs.Steps.{through, with_pair}
use Rattle.hints.proofs.reading.read_pairs.Given as goal

abbrev pub invariant-loop-form : goal.invariant-loop-form
invariant-loop-form l =
    let f = with_pair l.world in
    through f l.s (map form_of (drop l.form-index l.forms)) ≡ through f [] (map form_of l.forms)
