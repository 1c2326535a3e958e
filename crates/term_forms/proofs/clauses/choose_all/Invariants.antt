use Rattle.std.proofs.Common.{◌≡◌, ◌≤◌, length, take}
use Rattle.term_forms.specs.Clauses.{choice}
use Rattle.term_forms.specs.Words.{folded}
use Rattle.term_forms.proofs.clauses.choose_all.Given as goal

abbrev pub invariant-clauses : goal.invariant-clauses
invariant-clauses l = record {
  term : folded choice (take l.i l.clauses) l.term ≡ folded choice l.clauses l.fn.rest;
  inside : l.i ≤ length l.clauses;
}

abbrev pub decreases-clauses : goal.decreases-clauses
decreases-clauses l = l.i
