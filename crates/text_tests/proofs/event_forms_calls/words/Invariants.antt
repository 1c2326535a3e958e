use Rattle.lisp_data.specs.FormView.{IsProper}
use Rattle.text_tests.proofs.event_forms_calls.words.Given as goal

abbrev pub invariant-loop-text : goal.invariant-loop-text
invariant-loop-text l = IsProper l.list
