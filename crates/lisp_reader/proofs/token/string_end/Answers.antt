use Rattle.std.proofs.Common.{sym, ◌∙◌, arith}
use Rattle.lisp_reader.proofs.Pieces.{string-other}
use Rattle.lisp_reader.proofs.token.string_end.Goals as goal

pub bytes-preserved : goal.bytes-preserved
bytes-preserved c =
    (sym (string-other c.args.text.now c.bytes.i c.bytes-test.true c.if-text-i-eq34.false c.if-text-i-eq92.false) ∙ c.bytes.invariant.0, omega arith)
