use Rattle.std.proofs.Common.{◌≡◌, ◌+◌, ◌*◌, ◌++◌, length, drop}
use Rattle.terms.specs.Terms.{depth, depths, tms}
use Rattle.measures.specs.Calls.{place_of}
use Rattle.proof_builders.specs.Congruence.{congruences}
use Rattle.proof_builders.specs.view.Finders.{finder_of, name_of}
use Rattle.proof_builders.proofs.congruence.+congruence.Given as goal

abbrev pub decreases-congruence : goal.decreases-congruence
decreases-congruence l = 2 * depth l.old.now + 1

abbrev pub decreases-congruences : goal.decreases-congruences
decreases-congruences l = 2 * depths (tms l.olds.now)

abbrev pub invariant-congruences-loop-i : goal.invariant-congruences-loop-i
invariant-congruences-loop-i l = record {
  done :
      l.proofs ++ congruences (name_of l.calls) (finder_of l.calls) (place_of l.position) l.tests (tms (drop l.i l.olds)) (tms (drop l.i l.news))
      ≡ congruences (name_of l.calls) (finder_of l.calls) (place_of l.first) l.tests (tms l.olds) (tms l.news);
  count : length l.proofs ≡ l.i;
}
