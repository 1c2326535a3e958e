use Rattle.std.proofs.Common.{◌≡◌, ◌+◌, drop}
use Rattle.term_forms.specs.Clauses.{open_clauses}
use Rattle.term_forms.proofs.clauses.open_clauses.Given as goal

abbrev pub invariant-loop-i : goal.invariant-loop-i
invariant-loop-i l = l.i + open_clauses (drop l.i l.clauses) ≡ open_clauses l.clauses
