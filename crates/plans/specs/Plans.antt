-- Plans that do what they claim.
use Rattle.std.specs.Prelude.{◌≡◌, true, [], map, List, Some}
use Rattle.terms.specs.Worlds.{World, Each, Holds}
use Rattle.terms.specs.declared.sequent.Sequent.{Sequent}
use Rattle.proof_objects.specs.ProofTrees.{ProofTree}
use Rattle.kernel.specs.Concludes.{concludes}
use Rattle.plans.specs.declared.plan.Plan.{Plan}
use Rattle.plans.specs.Entries.{AdmitsAll, add_functions}
use Rattle.plans.specs.Proving.{proves}

-- nothing is made, and nothing has to be proved
abbrev pub no_plan : Plan
no_plan = record { entries = []; conditions = []; before = []; after = [] }

-- what the book proves
abbrev pub ConditionsHold : World → Plan → Type 0
ConditionsHold W p = Each (λ c. Holds W.functions c.sequent) p.conditions

-- a proof concludes in the world what proves the sequent
pub record IsProvable (W : World) (s : Sequent) : Type 0 where
  pub proof : ProofTree
  pub sequent : Sequent
  pub concluded : concludes W proof ≡ Some sequent
  pub proved : proves sequent s ≡ true

-- there is a proof of each condition
abbrev pub ConditionsProvable : World → Plan → Type 0
ConditionsProvable W p = Each (λ c. IsProvable W c.sequent) p.conditions

-- what the event proves itself, in the world before it
abbrev pub HoldBefore : World → Plan → Type 0
HoldBefore W p = Each (Holds W.functions) p.before

-- and in the world with its functions
abbrev pub HoldAfter : World → Plan → Type 0
HoldAfter W p = Each (Holds (add_functions p.entries W).functions) p.after

-- The claims of a plan hold where its conditions are proved, since the event makes its proofs of theirs. Where the conditions and the claims hold,
-- the world can take its entries.
pub record IsLawfulPlan (W : World) (p : Plan) : Type 0 where
  pub before : ConditionsProvable W p → HoldBefore W p
  pub after : ConditionsProvable W p → HoldAfter W p
  pub takes : ConditionsHold W p → HoldBefore W p → HoldAfter W p → AdmitsAll W p.entries

-- a plan without claims
pub record IsDirect (p : Plan) : Type 0 where
  pub before : p.before ≡ []
  pub after : p.after ≡ []
