use Rattle.std.proofs.Common.{◌≡◌, ◌-◌, ◌≤◌, length, drop}
use Rattle.lisp_reader.specs.Spans.{later, block}
use Rattle.lisp_reader.proofs.token.block_end.Given as goal

abbrev pub invariant-bytes : goal.invariant-bytes
invariant-bytes l = (later l.i (block l.inner (drop l.i l.text)) ≡ block 0 l.text) × (l.i ≤ length l.text) × (l.inner ≤ l.i)

abbrev pub decreases-bytes : goal.decreases-bytes
decreases-bytes l = length l.text - l.i
