use Rattle.std.proofs.Common.{◌≡◌, ◌+◌, ◌*◌, length, drop}
use Rattle.terms.specs.Substitution.{by_pairs}
use Rattle.terms.specs.Terms.{depth, depths, tms, same_tms, substitute_all}
use Rattle.kernel.proofs.induction.+instance.Given as goal

abbrev pub decreases-is_instance : goal.decreases-is_instance
decreases-is_instance l = 2 * depth l.pattern.now + 1

abbrev pub decreases-are_instances : goal.decreases-are_instances
decreases-are_instances l = 2 * depths (tms l.patterns.now)

abbrev pub invariant-are_instances-loop-i : goal.invariant-are_instances-loop-i
invariant-are_instances-loop-i l = record {
  lengths : length l.terms ≡ length l.patterns;
  rest : same_tms (substitute_all (by_pairs l.s) (tms (drop l.i l.patterns))) (tms (drop l.i l.terms)) ≡ same_tms (substitute_all (by_pairs l.s) (tms l.patterns)) (tms l.terms);
}
