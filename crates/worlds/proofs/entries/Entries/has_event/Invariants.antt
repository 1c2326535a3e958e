use Rattle.std.proofs.Common.{◌≡◌}
use Rattle.lisp_data.specs.FormView.{form_of}
use Rattle.worlds.specs.view.EntryLists.{any}
use Rattle.worlds.specs.Entries.{is_event}
use Rattle.worlds.proofs.entries.Entries.has_event.Given as goal

abbrev pub invariant-loop-entries : goal.invariant-loop-entries
invariant-loop-entries l = any (λ e. is_event e (form_of l.form)) l.entries ≡ any (λ e. is_event e (form_of l.form)) l.self
