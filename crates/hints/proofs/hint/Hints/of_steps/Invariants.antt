use Rattle.std.proofs.Common.{◌≡◌, map, drop}
use Rattle.lisp_data.specs.FormView.{form_of}
use Rattle.hints.specs.Steps.{through, with_step, no_hints}
use Rattle.hints.proofs.hint.Hints.of_steps.Given as goal

abbrev pub invariant-loop-form : goal.invariant-loop-form
invariant-loop-form l =
    let f = with_step l.facts.world.now l.facts.universals.now in
    through f l.hints (map form_of (drop l.form-index l.forms))
    ≡ through f (no_hints l.facts.world.now l.facts.universals.now) (map form_of l.forms)
