-- What a proof concludes in a world, and its first node that concludes nothing. No rule is named here.
use Rattle.std.specs.Prelude.{ℕ, ◌+◌, List, [], ◌∷◌, Option, Some, None, is_some, if◌then◌else◌}
use Rattle.std.specs.Option.{option_or}
use Rattle.lisp_data.specs.declared.code.Code.{Code}
use Rattle.terms.specs.Evaluation.{then_with}
use Rattle.terms.specs.Worlds.{World}
use Rattle.terms.specs.declared.sequent.Sequent.{Sequent}
use Rattle.proof_objects.specs.StepRules.{rule_of}
use Rattle.proof_objects.specs.ProofTrees.{ProofTree, By, Trees, NoMore, Also, steps, steps_in}
use Rattle.proof_objects.specs.declared.rule.Rule.{Rule}
use Rattle.proof_objects.specs.declared.step.Step.{Step}
use Rattle.kernel.specs.Conclude.{conclude, code_from}

-- the sequent that the last step concludes from what the subproofs do, or nothing
abbrev mutual
  pub concludes : World → ProofTree → Option Sequent
  concludes W (By s ps) = then_with (all_concluded W ps) (conclude W s)

  pub all_concluded : World → Trees → Option (List Sequent)
  all_concluded W NoMore = Some []
  all_concluded W (Also p ps) = then_with (concludes W p) (λ s. then_with (all_concluded W ps) (λ ss. Some (s ∷ ss)))

-- a node that concludes nothing: its number, its rule, and the code of the refusal
pub record BadNode : Type 0 where
  pub node : ℕ
  pub rule : Rule
  pub code : Code

abbrev pub bad_at : World → ℕ → Step → Option (List Sequent) → BadNode
bad_at W node s ps = record { node = node; rule = rule_of s; code = code_from W s ps }

-- the node, where it concludes nothing
abbrev pub bad_if_none : Option Sequent → BadNode → Option BadNode
bad_if_none o bad = if is_some o then None else Some bad

-- The first node that concludes nothing. So many nodes stand before those of the proof; subproofs are numbered
-- before their node, from left to right.
abbrev mutual
  pub first_bad : World → ℕ → ProofTree → Option BadNode
  first_bad W before (By s ps) =
      option_or (first_bad_in W before ps) (bad_if_none (concludes W (By s ps)) (bad_at W (before + steps_in ps + 1) s (all_concluded W ps)))

  pub first_bad_in : World → ℕ → Trees → Option BadNode
  first_bad_in W before NoMore = None
  first_bad_in W before (Also p ps) = option_or (first_bad W before p) (first_bad_in W (before + steps p) ps)
