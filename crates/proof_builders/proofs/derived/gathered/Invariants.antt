use Rattle.std.proofs.Common.{◌≡◌, ◌<◌, drop, length}
use Rattle.hints.specs.Start.{conjunction}
use Rattle.proof_builders.specs.Derived.{gathered}
use Rattle.proof_builders.proofs.derived.gathered.Given as goal

abbrev pub invariant-terms : goal.invariant-terms
invariant-terms l = record {
  all : l.all ≡ gathered (drop l.i l.terms);
  rest : l.rest ≡ conjunction (drop l.i l.terms);
  inside : l.i < length l.terms;
}

abbrev pub decreases-terms : goal.decreases-terms
decreases-terms l = l.i
