-- The rules of axioms and theorems.
use Rattle.std.specs.Prelude.{Bool, codes, List, [], ◌∷◌, ◌++◌, map, Option, Some, None}
use Rattle.std.specs.List.{list_all}
use Rattle.lisp_data.specs.Values.{Name}
use Rattle.terms.specs.Terms.{Tm}
use Rattle.terms.specs.Evaluation.{then_with}
use Rattle.terms.specs.Worlds.{World}
use Rattle.terms.specs.declared.sequent.Sequent.{Sequent}
use Rattle.terms.specs.declared.entries.FactName.TheVariants as fact
use Rattle.proof_objects.specs.declared.step.Step.{Step}
use Rattle.proof_objects.specs.declared.step.Step.TheVariants as step
use Rattle.kernel.specs.Concludes.{concludes}
use Rattle.kernel.specs.Conclusion.{alone}
use Rattle.reduction.specs.declared.found.Source.{Source}
use Rattle.reduction.specs.declared.found.Source.TheVariants.{Axiom, Theorem}
use Rattle.reduction.specs.declared.rules.Rule.{Rule}
use Rattle.reduction.specs.Finding.{only}
use Rattle.reduction.specs.Hyps.{has}
use Rattle.hints.specs.Formulas.{rule_of}

-- the step that cites an axiom or a theorem
abbrev pub citing : Source → Step
citing (Axiom k) = step.Axiom k []
citing (Theorem n) = step.Theorem (fact.Theorem n)

-- what an axiom or a theorem says
abbrev pub says : World → Source → Option Sequent
says W k = concludes W (alone (citing k))

-- each of the terms is in the first list
abbrev pub all_in : List Tm → List Tm → Bool
all_in us ts = list_all (has us) ts

-- the rule of a sequent, where its universals are among the condition's
abbrev pub rule_by : List Tm → Source → Sequent → Option Rule
rule_by us k s = only (all_in us s.universals) (rule_of k s.goal)

abbrev pub rule_from : World → List Tm → Source → Option Rule
rule_from W us k = then_with (says W k) (rule_by us k)

abbrev pub listed : {A : Type 0} → Option A → List A
listed None = []
listed (Some x) = x ∷ []

-- the rules of sources, in order
abbrev pub rules_from : World → List Tm → List Source → List Rule
rules_from W us [] = []
rules_from W us (k ∷ ks) = listed (rule_from W us k) ++ rules_from W us ks

-- the axioms that are rules; these words are shut, since each goal would hold all of them
unfoldable pub rule_axioms : List Source
rule_axioms =
    map Axiom (3 ∷ 4 ∷ 5 ∷ 6 ∷ 7 ∷ 8 ∷ 9 ∷ 10 ∷ 11 ∷ 12 ∷ 13 ∷ 14 ∷ 15 ∷ 16 ∷ 17 ∷ 18 ∷ 19 ∷ 23 ∷ 24 ∷ [])

unfoldable pub theorem_names : List Name
theorem_names =
    codes "EQUAL-SAME" ∷ codes "ACL2-COUNT-CAR" ∷ codes "ACL2-COUNT-CDR" ∷ codes "NATP-ACL2-COUNT"
    ∷ codes "NATP-NFIX" ∷ codes "NATP-MINUS-1" ∷ codes "NFIX-MINUS-1" ∷ codes "ACL2-COUNT-MINUS-1" ∷ []

-- the rules that each reduction has: of axioms, then of the theorems that each book begins with
abbrev pub built_in : World → List Tm → List Rule
built_in W us = rules_from W us rule_axioms ++ rules_from W us (map Theorem theorem_names)
