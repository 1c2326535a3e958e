use Rattle.std.proofs.Common.{◌≡◌, map, drop, length, Some, refl, ap, arith}
use Rattle.evaluator.specs.Counted.{ManyCalls, Stuck, entered, body_run}
use Rattle.evaluator.specs.view.Machines.{vals, waiting, act_of}
use Rattle.evaluator.proofs.Steps.{stops_on}
use Rattle.evaluator.proofs.Calls.{no_calls, other_count}
use Rattle.evaluator.proofs.Turns.{vals_left, enters}
use Rattle.evaluator.proofs.machine.Machine.enter.Goals as goal

pub returns-then-self-eq0-clause-goes : goal.returns-then-self-eq0-clause-goes
returns-then-self-eq0-clause-goes c ds light =
    let m = c.args.self.now in
    let vs = drop c.args.start (vals m) in
    let d = c.args.definition.now in
    stops_on (act_of ds) (map (waiting (vals m)) m.frames.items) (entered (body_run ds) d vs m.calls) (Some ManyCalls) (no_calls ds d vs m.calls c.if-self-eq0.true)

pub returns-then-len-start-clause-goes : goal.returns-then-len-start-clause-goes
returns-then-len-start-clause-goes c ds light =
    let m = c.args.self.now in
    let vs = drop c.args.start (vals m) in
    let d = c.args.definition.now in
    stops_on (act_of ds) (map (waiting (vals m)) m.frames.items) (entered (body_run ds) d vs m.calls) (Some Stuck)
    (other_count ds d vs m.calls c.if-self-eq0.false (λ e. c.if-len-start.true (omega (arith, e, vals_left m.values.items c.args.start, c.len.ensures, c.len-2.ensures))))

pub returns-clause-goes : goal.returns-clause-goes
returns-clause-goes c ds light =
    let m = c.args.self.now in
    let d = c.args.definition.now in
    let h = c.lower-start.ensures in
    let n = c.lower-start.new.self in
    let same : length d.formals ≡ length (drop c.args.start (vals m)) = omega (arith, vals_left m.values.items c.args.start, c.len.ensures, c.len-2.ensures, c.if-len-start.false) in
    let left = vals_left n.values.items c.lower-start.result in
    enters ds m _ n _ d _ c.args.start c.lower-start.result h refl refl refl c.if-self-eq0.false same c.as_slice-formals.ensures
    (omega (arith, ap length c.as_slice-formals.ensures, ap length h.moved, h.within, left, same)) refl refl light
