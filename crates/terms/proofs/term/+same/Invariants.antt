use Rattle.std.proofs.Common.{◌≡◌, ◌+◌, ◌*◌, length, take, drop}
use Rattle.terms.specs.Terms.{depth, depths, tms, same_tms}
use Rattle.terms.proofs.term.+same.Given as goal

abbrev pub decreases-Term::same : goal.decreases-Term::same
decreases-Term::same l = 2 * depth l.self.now + 1

abbrev pub decreases-same_all : goal.decreases-same_all
decreases-same_all l = 2 * depths (tms l.xs.now)

abbrev pub invariant-same_all-loop-i : goal.invariant-same_all-loop-i
invariant-same_all-loop-i l = record {
  lengths : length l.xs ≡ length l.ys;
  before : take l.i l.xs ≡ take l.i l.ys;
  rest : same_tms (tms (drop l.i l.xs)) (tms (drop l.i l.ys)) ≡ same_tms (tms l.xs) (tms l.ys);
}
