use Rattle.std.proofs.Common.{◌≡◌, ◌+◌, ◌-◌, ◌*◌, ◌<◌, ◌≤◌, length, drop, true, false}
use Rattle.lisp_data.specs.FormView.{forms_of, AreProper}
use Rattle.lisp_reader.specs.Grammar.{shift, items, form}
use Rattle.lisp_reader.proofs.Items.{list_at}
use Rattle.lisp_reader.proofs.read.Input.+read.Given as goal
use Rattle.lisp_reader.specs.declared.limits.TheConstants.{MAX_NESTING}

abbrev pub decreases-token_form : goal.decreases-token_form
decreases-token_form l = 3 * (MAX_NESTING - l.depth)

abbrev pub decreases-quoted : goal.decreases-quoted
decreases-quoted l = 3 * (MAX_NESTING - l.depth) + 1

abbrev pub decreases-tail : goal.decreases-tail
decreases-tail l = 3 * (MAX_NESTING - l.depth) + 1

abbrev pub decreases-list : goal.decreases-list
decreases-list l = 3 * (MAX_NESTING - l.depth) + 2

abbrev pub invariant-list-items : goal.invariant-list-items
invariant-list-items l = record {
  left : list_at l.self.more l.self.bytes.now l.joined l.depth l.some (forms_of l.items) l.next
      ≡ shift l.at (items l.self.more (form l.self.more true (MAX_NESTING - l.fn.depth)) false 0 (drop l.at l.self.bytes.now));
  proper : AreProper l.items;
  first : l.some ≡ true → 0 < length (forms_of l.items);
  forward : l.at ≤ l.next;
  inside : l.next ≤ length l.self.bytes.now;
  nested : l.fn.depth ≤ l.depth;
  counted : l.joined ≤ l.depth;
  depth : l.depth ≤ MAX_NESTING;
}

abbrev pub decreases-list-items : goal.decreases-list-items
decreases-list-items l = length l.self.bytes.now - l.next
