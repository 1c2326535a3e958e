use Rattle.std.proofs.Common.{◌++◌, map, arith}
use Rattle.events.specs.Lines.{hypothesis_line}
use Rattle.events.proofs.LineLemmas.{hypotheses-more}
use Rattle.events.proofs.lines.push_hypotheses.Goals as goal

pub loop-hyp-preserved : goal.loop-hyp-preserved
loop-hyp-preserved c =
    hypotheses-more c.args.hyps.now c.loop-hyp.hyp-index c.hyp-item.result c.loop-hyp.lines c.push.new.self (c.args.lines.now ++ map hypothesis_line c.args.hyps.now) c.in_ok-term_line.field-0
    (omega arith) c.hyp-item.is c.in_ok-term_line.ensures c.in_ok-push.ensures.ok c.loop-hyp.invariant
