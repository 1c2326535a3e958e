use Rattle.std.proofs.Common.{◌≡◌, map, drop}
use Rattle.lisp_data.specs.FormView.{form_of}
use Rattle.hints.specs.Steps.{through, with_rule}
use Rattle.hints.proofs.reading.add_all_rules.Given as goal

abbrev pub invariant-loop-form : goal.invariant-loop-form
invariant-loop-form l =
    let f = with_rule l.facts.world.now l.facts.universals.now in
    through f l.rules (map form_of (drop l.form-index l.forms)) ≡ through f l.initial.rules (map form_of l.forms)
