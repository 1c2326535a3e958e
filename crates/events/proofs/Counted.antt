-- An accepted event has one proof for each of its conditions and claims.
use Rattle.std.proofs.Common.{◌≡◌, ◌+◌, List, [], ◌∷◌, ◌++◌, length, map, refl, ◌∙◌, arith}
use Rattle.terms.specs.Worlds.{World}
use Rattle.terms.specs.declared.sequent.Sequent.{Sequent}
use Rattle.kernel.specs.Conclusion.{Conclusion}
use Rattle.plans.specs.declared.plan.Condition.{Condition}
use Rattle.plans.specs.Entries.{add_functions}
use Rattle.plans.specs.Proving.{ProvesAll, owed_before}
use Rattle.events.specs.Laws.{ProofForEach}

as_many : (W : World) (ss : List Sequent) (ps : List Conclusion) → ProvesAll W ss ps → length ps ≡ length ss
as_many W [] [] h = refl
as_many W [] (p ∷ ps) h = absurd h
as_many W (s ∷ ss) [] h = absurd h
as_many W (s ∷ ss) (p ∷ ps) h = let n = as_many W ss ps h.1 in grind (arith, n)

as_long : (cs : List Condition) (ss : List Sequent) → length (map (λ c. c.sequent) cs ++ ss) ≡ length cs + length ss
as_long [] ss = grind arith
as_long (c ∷ cs) ss = let n = as_long cs ss in grind (arith, n)

pub proof_for_each : ProofForEach
proof_for_each W form show next lines proofs a = (
  as_many W (owed_before a.plan) proofs.before a.proved.before ∙ as_long a.plan.conditions a.plan.before,
  as_many (add_functions a.plan.entries W) a.plan.after proofs.after a.proved.after,
)
