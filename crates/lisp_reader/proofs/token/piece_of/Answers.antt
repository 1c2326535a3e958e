use Rattle.std.proofs.Common.{◌∙◌, sym}
use Rattle.lisp_reader.proofs.Pieces.{front-plain}
use Rattle.lisp_reader.proofs.token.piece_of.Goals as goal

pub returns-in-len1-up-clause-piece : goal.returns-in-len1-up-clause-piece
returns-in-len1-up-clause-piece c = c.plain.ensures.piece ∙ front-plain c.args.text.now c.in-len1-up.len_at_least (sym c.if-opens_block.ensures.value)
