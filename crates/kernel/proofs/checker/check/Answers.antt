use Rattle.std.proofs.Common.{Ok, sym, ◌∙◌, subst, arith}
use Rattle.kernel.specs.Conclusion.{Conclusion}
use Rattle.kernel.specs.declared.checker.Turn.{Turn}
use Rattle.kernel.specs.view.Checking.{Turns, Refuses, root_of, resumed, subject, now, weight, effort}
use Rattle.kernel.proofs.Outcomes.{told_concludes, wrong_at, limit_at, nothing_at}
use Rattle.kernel.proofs.checker.check.Goals as goal

pub returns-in-Ok-Over-clause-no_bad : goal.returns-in-Ok-Over-clause-no_bad
returns-in-Ok-Over-clause-no_bad c =
    let W = c.args.world.now in
    let m = c.loop-next.checker in
    let k = c.loop-next.control in
    let end = subst (λ (t : Turn). Turns W (root_of m.frames.items (subject k)) (resumed W m.frames.items (now W k m.nodes)) (effort m.frames.items (weight k)) c.turn.new.self (Ok t)) c.in-Ok-Over.field-0-is c.in-Ok-Over.ensures.goes in
    let told = told_concludes W c.args.proof.now c.in-Ok-Over.proved.sequent c.turn.new.self.nodes (sym c.loop-next.invariant.stands.same ∙ end.same) in
    told.1

pub returns-in-Ok-Over-clause-few : goal.returns-in-Ok-Over-clause-few
returns-in-Ok-Over-clause-few c =
    let W = c.args.world.now in
    let m = c.loop-next.checker in
    let k = c.loop-next.control in
    let end = subst (λ (t : Turn). Turns W (root_of m.frames.items (subject k)) (resumed W m.frames.items (now W k m.nodes)) (effort m.frames.items (weight k)) c.turn.new.self (Ok t)) c.in-Ok-Over.field-0-is c.in-Ok-Over.ensures.goes in
    let told = told_concludes W c.args.proof.now c.in-Ok-Over.proved.sequent c.turn.new.self.nodes (sym c.loop-next.invariant.stands.same ∙ end.same) in
    omega (arith, told.2, c.turn.ensures.few)

pub returns-in-Err-clause-wrong : goal.returns-in-Err-clause-wrong
returns-in-Err-clause-wrong c =
    wrong_at Conclusion c.args.world.now c.args.proof.now c.in-Err.error (subst (λ o. Refuses o c.in-Err.error) c.loop-next.invariant.stands.same c.in-Err.ensures.goes)

pub returns-in-Err-clause-limits : goal.returns-in-Err-clause-limits
returns-in-Err-clause-limits c =
    limit_at Conclusion c.args.world.now c.args.proof.now c.in-Err.error (subst (λ o. Refuses o c.in-Err.error) c.loop-next.invariant.stands.same c.in-Err.ensures.goes)

pub returns-in-Err-clause-nothing : goal.returns-in-Err-clause-nothing
returns-in-Err-clause-nothing c =
    nothing_at Conclusion c.args.world.now c.args.proof.now c.in-Err.error (subst (λ o. Refuses o c.in-Err.error) c.loop-next.invariant.stands.same c.in-Err.ensures.goes)
