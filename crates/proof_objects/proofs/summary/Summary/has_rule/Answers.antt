use Rattle.std.proofs.Common.{sym, ◌∙◌}
use Rattle.std.proofs.lemmas.Bool.{le-ltb}
use Rattle.proof_objects.proofs.Summaries.{none_from}
use Rattle.proof_objects.proofs.summary.Summary.has_rule.Goals as goal

pub returns-else-rule-lt32 : goal.returns-else-rule-lt32
returns-else-rule-lt32 c = λ p h. le-ltb c.args.rule 32 c.if-rule-lt32.false ∙ sym (none_from c.args.rule c.if-rule-lt32.false p)
