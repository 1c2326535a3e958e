use Rattle.std.proofs.Common.{◌≡◌, ◌-◌, ◌≤◌, ◌++◌, length, drop}
use Rattle.lisp_reader.specs.Spans.{unescaped}
use Rattle.lisp_reader.proofs.read.unescaped.Given as goal

abbrev pub invariant-bytes : goal.invariant-bytes
invariant-bytes l = (l.held ++ unescaped (drop l.i l.text) ≡ unescaped l.text) × (l.i ≤ length l.text)

abbrev pub decreases-bytes : goal.decreases-bytes
decreases-bytes l = length l.text - l.i
