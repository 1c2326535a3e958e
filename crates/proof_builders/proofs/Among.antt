-- What proves conditions, and the proofs of sequents among proved ones.
use Rattle.std.proofs.Common.{◌≡◌, Bool, true, false, ◌||◌, List, [], ◌∷◌, if◌then◌else◌, refl}
use Rattle.std.specs.List.{list_any}
use Rattle.terms.specs.Worlds.{World, Each}
use Rattle.terms.specs.declared.sequent.Sequent.{Sequent}
use Rattle.kernel.specs.Conclusion.{Conclusion}
use Rattle.plans.specs.Proving.{proves}
use Rattle.reduction_proofs.specs.Proving.{Proves}
use Rattle.reduction_proofs.proofs.Deduction.{condition_proved, proved_condition}
use Rattle.proof_builders.specs.Congruence.{condition, proof_from, IsConcluded}
use Rattle.proof_builders.specs.Laws.{AmongProves, ConditionsProved}

-- the first that proves a sequent has its proof
pub from_proves : (W : World) (s : Sequent) (cs : List Conclusion) → Each (IsConcluded W) cs → list_any (λ c. proves c.sequent s) cs ≡ true → Proves W s.universals s.hyps s.goal (proof_from cs s)
from_proves W s [] h e = absurd (cc)
from_proves W s (c ∷ cs) h e = by_test (proves c.sequent s) refl e (from_proves W s cs h.1)
  where
    by_test : (b : Bool) → proves c.sequent s ≡ b → (b || list_any (λ k. proves k.sequent s) cs) ≡ true → (list_any (λ k. proves k.sequent s) cs ≡ true → Proves W s.universals s.hyps s.goal (proof_from cs s)) →
        Proves W s.universals s.hyps s.goal (if b then c.proof else proof_from cs s)
    by_test true p e' ih = proved_condition W c.sequent s c.proof h.0 p
    by_test false p e' ih = ih e'

pub among_proves : AmongProves
among_proves W us hs cs h d e = from_proves W (condition us hs d) cs h e

pub conditions_proved : ConditionsProved
conditions_proved W c P = (condition_proved W c P, λ p. proved_condition W p.sequent c P p.concluded p.proved)
