use Rattle.std.proofs.Common.{◌≡◌, drop}
use Rattle.terms.specs.Paths.{part_at}
use Rattle.terms.proofs.path.at_path.Given as goal

abbrev pub invariant-loop-number : goal.invariant-loop-number
invariant-loop-number l = part_at (drop l.number-index l.path) l.part ≡ part_at l.path l.term
