use Rattle.std.proofs.Common.{◌≡◌, IfSome}
use Rattle.std.specs.Option.{option_map, option_copied, option_or}
use Rattle.lisp_data.specs.FormView.{form_of, IsProper}
use Rattle.worlds.specs.view.EntryLists.{last}
use Rattle.worlds.specs.Entries.{defthm_of}
use Rattle.worlds.proofs.entries.Entries.defthm.Given as goal

abbrev pub invariant-loop-entries : goal.invariant-loop-entries
invariant-loop-entries l = record {
  value : option_or (last (λ e. defthm_of e l.name) l.entries) (option_map form_of (option_copied l.found)) ≡ last (λ e. defthm_of e l.name) l.self;
  proper : IfSome l.found (λ f. IsProper f.now);
}
