use Rattle.std.proofs.Common.{◌*◌, ◌%◌, ◌^◌, ap, ◌∙◌}
use Rattle.std.specs.Prelude.{bit_or}
use Rattle.proof_objects.specs.RuleNames.{number}
use Rattle.proof_objects.specs.StepRules.{cites_measure}
use Rattle.proof_objects.proofs.Summaries.{sums-step, or_then, or_else}
use Rattle.proof_objects.proofs.summary.Summary.with.Goals as goal

pub returns-then-self : goal.returns-then-self
returns-then-self c = λ ps h.
    sums-step c.args.self _ c.args.step.now ps c.saturating_add.ensures
    (ap (λ k. bit_or c.args.self.rules (1 * 2 ^ k % 2 ^ 32)) (c.number.ensures ∙ ap number c.rule.ensures))
    (or_then c.args.self.owed (cites_measure c.args.step.now) c.if-self.true) h

pub returns-else-self : goal.returns-else-self
returns-else-self c = λ ps h.
    sums-step c.args.self _ c.args.step.now ps c.saturating_add.ensures
    (ap (λ k. bit_or c.args.self.rules (1 * 2 ^ k % 2 ^ 32)) (c.number.ensures ∙ ap number c.rule.ensures))
    (or_else c.args.self.owed (cites_measure c.args.step.now) c.cites_measure.result c.if-self.false c.cites_measure.ensures) h
