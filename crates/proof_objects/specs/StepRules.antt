-- The rules of steps, and the facts that they cite.
use Rattle.std.specs.Prelude.{Bool, true, false}
use Rattle.terms.specs.declared.entries.FactName.{FactName}
use Rattle.terms.specs.declared.entries.FactName.TheVariants as fact
use Rattle.proof_objects.specs.declared.rule.Rule.{Rule}
use Rattle.proof_objects.specs.declared.rule.Rule.TheVariants as rule
use Rattle.proof_objects.specs.declared.step.Step.{Step}
use Rattle.proof_objects.specs.declared.step.Step.TheVariants.{Hyp, Refl, Replace, Unfold, Eval, Substitute, IfTrue, IfFalse, Cases, Cut, Weaken, Contradict, Axiom, Ring, ImpliesIn, ImpliesOut, Universal, Discharge, Theorem, Instance, Induct}

-- the rule of a step
abbrev pub rule_of : Step → Rule
rule_of (Hyp p) = rule.Hyp
rule_of (Refl a) = rule.Refl
rule_of (Replace path) = rule.Replace
rule_of (Unfold t) = rule.Unfold
rule_of (Eval a) = rule.Eval
rule_of (Substitute s) = rule.Substitute
rule_of (IfTrue b c) = rule.IfTrue
rule_of (IfFalse b c) = rule.IfFalse
rule_of (Cases c) = rule.Cases
rule_of Cut = rule.Cut
rule_of (Weaken hs us) = rule.Weaken
rule_of (Contradict g) = rule.Contradict
rule_of (Axiom k s) = rule.Axiom
rule_of (Ring a b) = rule.Ring
rule_of (ImpliesIn h) = rule.ImpliesIn
rule_of ImpliesOut = rule.ImpliesOut
rule_of (Universal u s) = rule.Universal
rule_of Discharge = rule.Discharge
rule_of (Theorem f) = rule.Theorem
rule_of (Instance f ps) = rule.Instance
rule_of (Induct m cs) = rule.Induct

abbrev pub is_owed : FactName → Bool
is_owed (fact.Measure f k) = true
is_owed _ = false

-- the step cites what a measure owes, or an instance of that
abbrev pub cites_measure : Step → Bool
cites_measure (Theorem f) = is_owed f
cites_measure (Instance f ps) = is_owed f
cites_measure _ = false
