use Rattle.std.proofs.Common.{None, ap, sym, ◌∙◌}
use Rattle.worlds.specs.Entries.{is_named}
use Rattle.worlds.specs.view.EntryLists.{any, entries_of}
use Rattle.worlds.proofs.entries.Entries.named.Goals as goal

pub returns : goal.returns
returns c = c.loop-entries.invariant None (ap (any (λ e. is_named e c.args.name.now)) (sym c.entries.view_is ∙ ap entries_of c.in_default.is))
