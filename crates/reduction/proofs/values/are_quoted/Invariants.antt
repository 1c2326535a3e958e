use Rattle.std.proofs.Common.{◌≡◌, drop}
use Rattle.terms.specs.Terms.{tms}
use Rattle.reduction.specs.Finders.{are_quoted}
use Rattle.reduction.proofs.values.are_quoted.Given as goal

abbrev pub invariant-loop-term : goal.invariant-loop-term
invariant-loop-term l = are_quoted (tms (drop l.term-index l.terms)) ≡ are_quoted (tms l.terms)
