use Rattle.std.proofs.Common.{List, Ok, Err, ap, sym, subst, ◌∙◌}
use Rattle.kernel.specs.Conclusion.{IsProvedBy}
use Rattle.kernel.specs.view.Checking.{rest_of, root_of, resumed, subject, now, weight, effort, Linked, IsGiven, Goes}
use Rattle.kernel.specs.declared.checker.Frame.{Frame}
use Rattle.kernel.specs.declared.checker.Control.{Control}
use Rattle.kernel.proofs.Stacks.{left_all, linked-pop, woken}
use Rattle.kernel.proofs.checker.Checker.turn.Goals as goal

pub proceed-requires-clause-left : goal.proceed-requires-clause-left
proceed-requires-clause-left c =
    ap (rest_of c.args.world.now c.new.result) c.as_slice-subproofs.ensures ∙ left_all c.args.world.now c.node.result.now c.in-Check.proof.now c.new.result c.node.ensures c.new.ensures

pub resume-requires-clause-fits : goal.resume-requires-clause-fits
resume-requires-clause-fits c =
    let W = c.args.world.now in
    (linked-pop W c.pop.new.self.items c.in-Some.frame c.in-Give.proved.proof
    (subst (λ (fs : List Frame). Linked W fs c.in-Give.proved.proof) c.in-Some.ensures.items (subst (λ (k : Control). Linked W c.args.self.now.frames.items (subject k)) c.in-Give.is c.requires.linked))).0

pub resume-requires-clause-linked : goal.resume-requires-clause-linked
resume-requires-clause-linked c =
    let W = c.args.world.now in
    (linked-pop W c.pop.new.self.items c.in-Some.frame c.in-Give.proved.proof
    (subst (λ (fs : List Frame). Linked W fs c.in-Give.proved.proof) c.in-Some.ensures.items (subst (λ (k : Control). Linked W c.args.self.now.frames.items (subject k)) c.in-Give.is c.requires.linked))).2

pub resume-requires-clause-proved : goal.resume-requires-clause-proved
resume-requires-clause-proved c =
    let W = c.args.world.now in
    let r = linked-pop W c.pop.new.self.items c.in-Some.frame c.in-Give.proved.proof
    (subst (λ (fs : List Frame). Linked W fs c.in-Give.proved.proof) c.in-Some.ensures.items (subst (λ (k : Control). Linked W c.args.self.now.frames.items (subject k)) c.in-Give.is c.requires.linked)) in
    subst (IsProvedBy c.in-Give.proved W) r.1 (subst (IsGiven W) c.in-Give.is c.requires.given)

pub returns-in-Ok-resume-clause-goes : goal.returns-in-Ok-resume-clause-goes
returns-in-Ok-resume-clause-goes c =
    let W = c.args.world.now in
    let m = c.args.self.now in
    subst (λ (k : Control). Goes W (root_of m.frames.items (subject k)) (resumed W m.frames.items (now W k m.nodes)) (effort m.frames.items (weight k)) c.resume.new.self (Ok c.in-Ok-resume.next)) (sym c.in-Give.is)
    (woken W m c.resume.new.self c.pop.new.self.items c.in-Some.frame c.in-Give.proved (Ok c.in-Ok-resume.next) c.in-Some.ensures.items c.in-Ok-resume.ensures.goes)

pub returns-in-Err-resume-clause-goes : goal.returns-in-Err-resume-clause-goes
returns-in-Err-resume-clause-goes c =
    let W = c.args.world.now in
    let m = c.args.self.now in
    subst (λ (k : Control). Goes W (root_of m.frames.items (subject k)) (resumed W m.frames.items (now W k m.nodes)) (effort m.frames.items (weight k)) c.resume.new.self (Err c.in-Err-resume.error)) (sym c.in-Give.is)
    (woken W m c.resume.new.self c.pop.new.self.items c.in-Some.frame c.in-Give.proved (Err c.in-Err-resume.error) c.in-Some.ensures.items c.in-Err-resume.ensures.goes)
