use Rattle.std.proofs.Common.{◌≡◌, ◌+◌, ◌-◌, ◌≤◌, length, drop}
use Rattle.lisp_reader.specs.Spans.{later, string}
use Rattle.lisp_reader.proofs.token.string_end.Given as goal

abbrev pub invariant-bytes : goal.invariant-bytes
invariant-bytes l = (later l.i (string (drop l.i l.text)) ≡ string l.text) × (l.i ≤ length l.text + 1)

abbrev pub decreases-bytes : goal.decreases-bytes
decreases-bytes l = (length l.text + 1) - l.i
