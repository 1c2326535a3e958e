use Rattle.std.proofs.Common.{◌≡◌}
use Rattle.std.specs.Option.{option_copied, option_or}
use Rattle.worlds.specs.view.EntryLists.{last}
use Rattle.worlds.specs.Entries.{instance_in}
use Rattle.worlds.proofs.entries.Entries.instance.Given as goal

abbrev pub invariant-loop-entries : goal.invariant-loop-entries
invariant-loop-entries l = option_or (last (λ e. instance_in e l.of l.pairs) l.entries) (option_copied l.found) ≡ last (λ e. instance_in e l.of l.pairs) l.self
