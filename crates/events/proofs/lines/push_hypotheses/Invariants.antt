use Rattle.std.proofs.Common.{◌≡◌, ◌++◌, map, drop}
use Rattle.events.specs.Lines.{hypothesis_line}
use Rattle.events.proofs.lines.push_hypotheses.Given as goal

abbrev pub invariant-loop-hyp : goal.invariant-loop-hyp
invariant-loop-hyp l = l.lines ++ map hypothesis_line (drop l.hyp-index l.hyps) ≡ l.initial.lines ++ map hypothesis_line l.hyps
