use Rattle.std.proofs.Common.{◌≡◌, ◌+◌, ◌++◌, drop}
use Rattle.plan_checks.specs.Numbered.{numbered, numbered_from}
use Rattle.plan_checks.proofs.conditions.numbered.Given as goal

abbrev pub invariant-loop-i : goal.invariant-loop-i
invariant-loop-i l = l.conditions ++ numbered_from l.word (l.i + 1) (drop l.i l.sequents) ≡ numbered l.word l.sequents
