use Rattle.std.proofs.Common.{sym, ◌∙◌}
use Rattle.measures.proofs.Numbers.{has_number}
use Rattle.measures.proofs.counts.has_obligation.Goals as goal

pub returns-then-is_some : goal.returns-then-is_some
returns-then-is_some c =
    has_number c.args.def.now c.args.number c.max-calls.result c.left_of.result (sym c.is_some.ensures ∙ c.if-is_some.true) c.max-calls.ensures c.left_of.ensures
