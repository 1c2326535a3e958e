use Rattle.std.proofs.Common.{◌≡◌, length, take}
use Rattle.kernel.specs.InductCases.{cases_of, falls_of}
use Rattle.kernel.proofs.induction.paired.Given as goal

abbrev pub invariant-loop-i : goal.invariant-loop-i
invariant-loop-i l = record {
  lengths : length l.cases ≡ length l.falls;
  cases : cases_of l.paired ≡ take l.i l.cases;
  falls : falls_of l.paired ≡ take l.i l.falls;
}
