use Rattle.std.proofs.Common.{◌≡◌, ◌++◌, drop}
use Rattle.events.specs.Shown.{entries_lines}
use Rattle.events.proofs.shown.push_entries.Given as goal

abbrev pub invariant-loop-entry : goal.invariant-loop-entry
invariant-loop-entry l = l.lines ++ entries_lines (drop l.entry-index l.entries) ≡ l.initial.lines ++ entries_lines l.entries
