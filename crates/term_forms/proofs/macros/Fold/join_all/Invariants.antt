use Rattle.std.proofs.Common.{◌≡◌, ◌≤◌, length, take}
use Rattle.term_forms.specs.Words.{joined, folded}
use Rattle.term_forms.proofs.macros.Fold.join_all.Given as goal

abbrev pub invariant-parts : goal.invariant-parts
invariant-parts l = record {
  term : folded (joined l.self) (take l.i l.parts) l.term ≡ folded (joined l.self) l.parts l.fn.rest;
  inside : l.i ≤ length l.parts;
}

abbrev pub decreases-parts : goal.decreases-parts
decreases-parts l = l.i
