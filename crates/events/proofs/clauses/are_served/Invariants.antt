use Rattle.std.proofs.Common.{◌≡◌, drop, map}
use Rattle.lisp_data.specs.FormView.{form_of}
use Rattle.event_forms.specs.Clauses.{hints_in}
use Rattle.events.specs.Verdicts as spec
use Rattle.events.proofs.clauses.are_served.Given as goal

abbrev pub invariant-loop-form : goal.invariant-loop-form
invariant-loop-form l = spec.are_served l.conditions (hints_in (map form_of (drop l.form-index l.clauses))) ≡ spec.are_served l.conditions (hints_in (map form_of l.clauses))
