use Rattle.std.proofs.Common.{List, length, Ok, Err, refl, subst, ap, ◌∙◌, arith, map}
use Rattle.lisp_data.specs.ValueView.{val_of}
use Rattle.evaluator.specs.Counted.{Gives}
use Rattle.evaluator.specs.view.Machines.{vals, waiting, whole, act_of, now, resumed, weight_of, Stacked}
use Rattle.evaluator.specs.declared.machine.Frame.{Frame}
use Rattle.evaluator.proofs.Steps.{stacked_pop}
use Rattle.evaluator.proofs.Turns.{turned, no_frames}
use Rattle.evaluator.proofs.machine.Machine.turn.Goals as goal

pub resume-requires-clause-stacked : goal.resume-requires-clause-stacked
resume-requires-clause-stacked c =
    (stacked_pop 0 (length c.args.self.now.values.items) c.pop.new.self.items c.in-Some.frame
    (subst (λ (fs : List Frame). Stacked 0 fs (length c.args.self.now.values.items)) c.in-Some.ensures.items c.requires.stacked)).0

pub resume-requires-clause-inside : goal.resume-requires-clause-inside
resume-requires-clause-inside c =
    (stacked_pop 0 (length c.args.self.now.values.items) c.pop.new.self.items c.in-Some.frame
    (subst (λ (fs : List Frame). Stacked 0 fs (length c.args.self.now.values.items)) c.in-Some.ensures.items c.requires.stacked)).1

pub resume-requires-clause-height : goal.resume-requires-clause-height
resume-requires-clause-height c =
    (stacked_pop 0 (length c.args.self.now.values.items) c.pop.new.self.items c.in-Some.frame
    (subst (λ (fs : List Frame). Stacked 0 fs (length c.args.self.now.values.items)) c.in-Some.ensures.items c.requires.stacked)).2

pub returns-in-None-clause-goes : goal.returns-in-None-clause-goes
returns-in-None-clause-goes c =
    let ds = c.args.world.now.functions.defs in
    let m = c.args.self.now in (
      m.calls,
      ap (λ k. whole ds m (now ds k (vals m) m.calls)) c.in-Give.is
          ∙ ap (λ fs. resumed (act_of ds) (map (waiting (vals m)) fs) (Gives (val_of c.in-Give.value) m.calls)) (no_frames m.frames.items (omega (arith, c.in-None.ensures.cases.0))),
    )

pub returns-in-Ok-resume-clause-goes : goal.returns-in-Ok-resume-clause-goes
returns-in-Ok-resume-clause-goes c =
    let ds = c.args.world.now.functions.defs in
    let m = c.args.self.now in
    turned ds m (record m { frames = c.pop.new.self }) c.resume.new.self (Ok c.in-Ok-resume.next) c.in-Some.frame c.args.control (val_of c.in-Give.value) c.in-Some.ensures.items refl refl
    (ap (λ k. now ds k (vals m) m.calls) c.in-Give.is) (ap weight_of c.in-Give.is) c.in-Ok-resume.ensures.goes

pub returns-in-Err-resume-clause-goes : goal.returns-in-Err-resume-clause-goes
returns-in-Err-resume-clause-goes c =
    let ds = c.args.world.now.functions.defs in
    let m = c.args.self.now in
    turned ds m (record m { frames = c.pop.new.self }) c.resume.new.self (Err c.in-Err-resume.halt) c.in-Some.frame c.args.control (val_of c.in-Give.value) c.in-Some.ensures.items refl refl
    (ap (λ k. now ds k (vals m) m.calls) c.in-Give.is) (ap weight_of c.in-Give.is) c.in-Err-resume.ensures.goes
