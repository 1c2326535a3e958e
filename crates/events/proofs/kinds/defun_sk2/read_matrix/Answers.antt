use Rattle.events.proofs.kinds.defun_sk2.read_matrix.Goals as goal

pub returns : goal.returns
returns c = c.read_term.ensures
