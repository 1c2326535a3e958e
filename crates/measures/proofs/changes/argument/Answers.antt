use Rattle.std.proofs.Common.{sym, ◌∙◌, arith}
use Rattle.measures.proofs.Arguments.{passed}
use Rattle.measures.proofs.changes.argument.Goals as goal

pub loop-i-preserved : goal.loop-i-preserved
loop-i-preserved c =
    passed c.args.formals.now c.args.args.now c.loop-i.i c.args.formal.now c.index-formals-i.result (omega arith) c.index-formals-i.is
    (sym c.same.ensures.value ∙ c.if-same.false)
    ∙ c.loop-i.invariant
