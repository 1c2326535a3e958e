use Rattle.std.proofs.Common.{◌≡◌, ◌++◌, drop, map}
use Rattle.terms.specs.Substitution.{by_pairs}
use Rattle.terms.specs.Terms.{substitute}
use Rattle.kernel.proofs.sequents.all_substituted.Given as goal

abbrev pub invariant-loop-term : goal.invariant-loop-term
invariant-loop-term l =
    l.instances ++ map (substitute (by_pairs l.s)) (drop l.term-index l.terms) ≡ map (substitute (by_pairs l.s)) l.terms
