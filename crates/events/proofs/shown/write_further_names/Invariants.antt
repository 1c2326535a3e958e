use Rattle.std.proofs.Common.{◌≡◌, ◌++◌, drop}
use Rattle.events.specs.Shown.{further_text}
use Rattle.events.proofs.shown.write_further_names.Given as goal

abbrev pub invariant-loop-name : goal.invariant-loop-name
invariant-loop-name l = l.out ++ further_text (drop l.name-index l.names) ≡ l.initial.out ++ further_text l.names
