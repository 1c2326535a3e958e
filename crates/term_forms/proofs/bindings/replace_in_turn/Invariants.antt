use Rattle.std.proofs.Common.{◌≡◌, ◌≤◌, length, take}
use Rattle.term_forms.specs.Bindings.{replaced_by}
use Rattle.term_forms.specs.Words.{folded}
use Rattle.term_forms.proofs.bindings.replace_in_turn.Given as goal

abbrev pub invariant-images : goal.invariant-images
invariant-images l = record {
  term : folded replaced_by (take l.i l.images) l.replaced ≡ folded replaced_by l.images l.fn.term;
  inside : l.i ≤ length l.images;
}

abbrev pub decreases-images : goal.decreases-images
decreases-images l = l.i
