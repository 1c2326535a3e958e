use Rattle.std.proofs.Common.{◌≡◌, ◌<◌, ◌≤◌, length}
use Rattle.lisp_data.specs.Datum.{nil_form}
use Rattle.lisp_reader.specs.Grammar.{Got}
use Rattle.lisp_reader.specs.view.Closes.{closed}
use Rattle.lisp_reader.proofs.read.Input.closings.Given as goal

abbrev pub invariant-lists : goal.invariant-lists
invariant-lists l =
    (closed l.self.more l.self.bytes.now l.left (Got nil_form l.end) ≡ closed l.self.more l.self.bytes.now l.count (Got nil_form l.last))
    × (l.last ≤ l.end) × (l.end < length l.self.bytes.now)

abbrev pub decreases-lists : goal.decreases-lists
decreases-lists l = l.left
