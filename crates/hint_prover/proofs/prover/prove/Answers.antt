use Rattle.std.proofs.Common.{◌≡◌, [], ◌∷◌, None, sym, subst, ◌∙◌}
use Rattle.reduction.specs.declared.run.Outcome.TheVariants.{Stuck}
use Rattle.reduction.specs.Moves.{subgoal}
use Rattle.reduction.specs.Reduction.{next, reduce}
use Rattle.hints.specs.Start.{start}
use Rattle.hint_prover.specs.Answers.{leaf_of}
use Rattle.hint_prover.proofs.prover.prove.Goals as goal

pub returns-in_ok-leaf-in-Stuck-clause-stuck : goal.returns-in_ok-leaf-in-Stuck-clause-stuck
returns-in_ok-leaf-in-Stuck-clause-stuck c =
    let W = c.args.world.now in
    let h = c.args.hints.now in
    let tasks = record { cases = 0; subgoal = start W h c.in_ok-subgoal.subgoal } ∷ [] in
    let run : reduce W h.how c.step_limit.result tasks ≡ Stuck c.in-Stuck.leaf = sym c.in_ok-made.ensures ∙ c.in-Stuck.is in
    let stuck : next W h.how c.in-Stuck.leaf ≡ None = c.leaves_are_stuck.ensures W h.how c.step_limit.result tasks c.in-Stuck.leaf run in
    let same : c.new.result ≡ leaf_of c.args.condition.now c.in-Stuck.leaf = c.new.ensures ∙ c.in_ok-leaf-in-Stuck.ensures in
    subst (λ s. next W h.how (subgoal s.hyps s.goal) ≡ None) (sym same) stuck
