use Rattle.std.proofs.Common.{◌≡◌, drop, map}
use Rattle.lisp_data.specs.FormView.{form_of}
use Rattle.event_forms.specs.Clauses.{all_named}
use Rattle.event_forms.proofs.clauses.add_conditions.Given as goal

abbrev pub invariant-loop-form : goal.invariant-loop-form
invariant-loop-form l = all_named l.kind l.named (map form_of (drop l.form-index l.forms)) ≡ all_named l.kind l.fn.named (map form_of l.forms)
