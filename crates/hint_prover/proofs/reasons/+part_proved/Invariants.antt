use Rattle.terms.specs.Terms.{depth}
use Rattle.hint_prover.proofs.reasons.+part_proved.Given as goal

abbrev pub decreases-part_proved : goal.decreases-part_proved
decreases-part_proved l = depth l.part.now
