-- Which sequents prove a condition, and the proofs of a plan.
use Rattle.std.specs.Prelude.{◌≡◌, Bool, true, false, ◌&&◌, ◌||◌, List, [], ◌∷◌, ◌++◌, map}
use Rattle.terms.specs.Terms.{Tm, same_tm}
use Rattle.terms.specs.Worlds.{World}
use Rattle.terms.specs.declared.sequent.Sequent.{Sequent}
use Rattle.kernel.specs.Conclusion.{Conclusion}
use Rattle.plans.specs.declared.plan.Condition.{Condition}
use Rattle.plans.specs.declared.plan.Plan.{Plan}
use Rattle.plans.specs.declared.claims.Claims.{Claims}
use Rattle.plans.specs.Entries.{add_functions}

abbrev pub is_among : Tm → List Tm → Bool
is_among t [] = false
is_among t (u ∷ us) = same_tm t u || is_among t us

-- each of the first list is in the second
abbrev pub are_among : List Tm → List Tm → Bool
are_among [] us = true
are_among (t ∷ ts) us = is_among t us && are_among ts us

-- a sequent proves a condition: the same goal, from universals and hypotheses among the condition's
abbrev pub proves : Sequent → Sequent → Bool
proves s c = are_among s.universals c.universals && are_among s.hyps c.hyps && same_tm s.goal c.goal

-- each sequent is proved in the world, in order
abbrev pub ProvesAll : World → List Sequent → List Conclusion → Type 0
ProvesAll W [] [] = Unit {0}
ProvesAll W [] (p ∷ ps) = ⊥
ProvesAll W (s ∷ ss) [] = ⊥
ProvesAll W (s ∷ ss) (p ∷ ps) = ((p.world ≡ W) × (proves p.sequent s ≡ true)) × ProvesAll W ss ps

abbrev pub sequents : List Condition → List Sequent
sequents cs = map (λ c. c.sequent) cs

-- what has to be proved in the world before the event: its conditions, and what is claimed there
abbrev pub owed_before : Plan → List Sequent
owed_before p = sequents p.conditions ++ p.before

-- no proofs
abbrev pub no_claims : Claims
no_claims = record { before = []; after = [] }

-- the proofs are of what a plan claims: in the world before the event, and in the world with its functions
abbrev pub AreClaimed : World → Plan → Claims → Type 0
AreClaimed W p c = ProvesAll W p.before c.before × ProvesAll (add_functions p.entries W) p.after c.after

-- The proofs of a plan: the first are of its conditions and of what it claims in the world before the event, the second of what it claims in
-- the world with its functions.
pub record AreProofs (W : World) (p : Plan) (first second : List Conclusion) : Type 0 where
  pub before : ProvesAll W (owed_before p) first
  pub after : ProvesAll (add_functions p.entries W) p.after second
