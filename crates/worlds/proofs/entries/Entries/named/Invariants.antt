use Rattle.std.proofs.Common.{Option}
use Rattle.worlds.specs.Named.{Gives}
use Rattle.worlds.specs.declared.named.Named.{Named}
use Rattle.worlds.proofs.entries.Entries.named.Given as goal

-- what the rest gives the name to, all of them do
abbrev pub invariant-loop-entries : goal.invariant-loop-entries
invariant-loop-entries l = (r : Option Named) → Gives l.name l.entries r → Gives l.name l.self r
