use Rattle.std.proofs.Common.{map, length, Some, refl, ap, sym, ◌∙◌, arith}
use Rattle.std.proofs.lemmas.List.{take_all, length-map}
use Rattle.lisp_data.specs.ValueView.{val_of}
use Rattle.terms.specs.Terms.{tms}
use Rattle.evaluator.specs.Counted.{Stuck, taken, steps}
use Rattle.evaluator.specs.view.Machines.{vals, waiting, act_of, env_of, Either}
use Rattle.evaluator.proofs.Steps.{stops_on, stacked_more}
use Rattle.evaluator.proofs.Turns.{chooses, three, not_three, steps_of}
use Rattle.evaluator.proofs.machine.Machine.choose.Goals as goal

pub returns-then-args-ne3-clause-goes : goal.returns-then-args-ne3-clause-goes
returns-then-args-ne3-clause-goes c ds =
    let m = c.args.self.now in
    let env = env_of c.args.scope (vals m) in
    let ss = steps (act_of ds) (tms c.args.args.now) env in
    let long = steps_of (act_of ds) c.args.args.now env in
    stops_on (act_of ds) (map (waiting (vals m)) m.frames.items) (taken ss m.calls) (Some Stuck)
    (not_three ss m.calls (λ e. c.if-args-ne3.true (sym long ∙ e)))

pub returns-clause-goes : goal.returns-clause-goes
returns-clause-goes c ds =
    let m = c.args.self.now in
    let env = env_of c.args.scope (vals m) in
    let cut = take_all c.len-height.result (vals m) (omega (arith, c.len-height.ensures, length-map m.values.items val_of)) in
    let a = c.index-args-0.result in
    let b = c.index-args-1.result in
    let d = c.index-args-2.result in
    chooses ds m _ _ _ c.args.args.now env a b d
    (three c.args.args.now a b d c.if-args-ne3.false c.index-args-0.is c.index-args-1.is c.index-args-2.is)
    c.in_ok-push.ensures.items refl refl (stacked_more 0 (length m.values.items) c.len-height.result m.frames.items c.requires.stacked (omega (arith, c.len-height.ensures))) (omega (arith, c.len-height.ensures))
    (omega (arith, c.len-height.ensures, c.requires.lies)) c.requires.lies
    (ap (λ us. Either b d (env_of c.args.scope us)) cut) refl (omega arith)
