use Rattle.std.proofs.Common.{◌≡◌, ◌+◌, ◌-◌, ◌≤◌, length, drop}
use Rattle.lisp_reader.specs.Spans.{gaps}
use Rattle.lisp_reader.proofs.token.next_token.Given as goal

abbrev pub invariant-gaps : goal.invariant-gaps
invariant-gaps l = (l.place + gaps (drop l.place l.bytes) ≡ l.at + gaps (drop l.at l.bytes)) × (l.place ≤ length l.bytes)

abbrev pub decreases-gaps : goal.decreases-gaps
decreases-gaps l = length l.bytes - l.place
