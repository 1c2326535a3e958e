use Rattle.std.proofs.Common.{◌≡◌, drop, map}
use Rattle.lisp_data.specs.FormView.{form_of}
use Rattle.event_forms.specs.Clauses.{hints_in}
use Rattle.events.specs.Verdicts as spec
use Rattle.events.proofs.clauses.first_steps.Given as goal

abbrev pub invariant-loop-form : goal.invariant-loop-form
invariant-loop-form l = spec.clause_of (hints_in (map form_of (drop l.form-index l.clauses))) l.name ≡ spec.clause_of (hints_in (map form_of l.clauses)) l.name
