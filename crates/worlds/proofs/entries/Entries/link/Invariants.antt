use Rattle.std.proofs.Common.{◌≡◌}
use Rattle.worlds.specs.view.EntryLists.{first}
use Rattle.worlds.specs.Entries.{link_of}
use Rattle.worlds.proofs.entries.Entries.link.Given as goal

abbrev pub invariant-loop-entries : goal.invariant-loop-entries
invariant-loop-entries l = first (λ e. link_of e l.name) l.entries ≡ first (λ e. link_of e l.name) l.self
