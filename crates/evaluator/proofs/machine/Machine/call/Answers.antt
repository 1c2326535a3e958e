use Rattle.std.proofs.Common.{map, drop, refl, ap, sym, subst, ◌∙◌, Some, arith}
use Rattle.evaluator.specs.Counted.{Stops, IsVariable, answered}
use Rattle.evaluator.specs.view.Table.{performs}
use Rattle.evaluator.specs.view.Machines.{vals, waiting, whole, act_of, refusal, StopsWith}
use Rattle.evaluator.specs.declared.machine.Control.TheVariants.{Give}
use Rattle.evaluator.proofs.Steps.{stops_on, stacked_more, found_light}
use Rattle.evaluator.proofs.Calls.{performs_call, variable_call, defined_call}
use Rattle.evaluator.proofs.Turns.{goes_on, goes_as, slice_vals, refused}
use Rattle.evaluator.proofs.machine.Machine.call.Goals as goal
use Rattle.std.specs.Prelude.{length}

pub returns-in-Ok-clause-goes : goal.returns-in-Ok-clause-goes
returns-in-Ok-clause-goes c =
    let ds = c.args.world.now.functions.defs in
    let m = c.args.self.now in
    let vs = drop c.args.start (vals m) in
    let found = rw c.in-Primitive.is at c.find.ensures.callee in
    goes_on ds (record m { callees = c.find.new.self }) (Give c.in-Ok.value) (act_of ds c.args.name.now vs m.calls) 1
    (stacked_more 0 c.args.start (length m.values.items) m.frames.items c.requires.stacked c.requires.start) tt
    (sym (performs_call ds c.args.name.now c.in-Primitive.primitive vs m.calls found ∙ ap (λ r. answered r m.calls) (ap (performs c.in-Primitive.primitive) (sym (slice_vals c.deref.result.now m.values.items c.args.start c.deref.ensures.value)) ∙ c.in-Ok.ensures))) (omega arith)

pub returns-in-Err-clause-goes : goal.returns-in-Err-clause-goes
returns-in-Err-clause-goes c =
    let ds = c.args.world.now.functions.defs in
    let m = c.args.self.now in
    let vs = drop c.args.start (vals m) in
    let found = rw c.in-Primitive.is at c.find.ensures.callee in
    stops_on (act_of ds) (map (waiting (vals m)) m.frames.items) (act_of ds c.args.name.now vs m.calls) (refusal c.in-Err.halt)
    (subst (λ o. StopsWith o (refusal c.in-Err.halt))
    (sym (performs_call ds c.args.name.now c.in-Primitive.primitive vs m.calls found ∙ ap (λ l. answered (performs c.in-Primitive.primitive l) m.calls) (sym (slice_vals c.deref.result.now m.values.items c.args.start c.deref.ensures.value))))
    (refused _ (refusal c.in-Err.halt) m.calls c.in-Err.ensures))

pub returns-in-Defined-clause-goes : goal.returns-in-Defined-clause-goes
returns-in-Defined-clause-goes c =
    let ds = c.args.world.now.functions.defs in
    let m = c.args.self.now in
    let f = c.args.name.now in
    let d = c.in-Defined.definition.now in
    let found = rw c.in-Defined.is at c.find.ensures.callee in
    goes_as ds _ _ _ _ c.enter.new.self c.enter.result
    (ap (whole ds m) (sym (defined_call ds f d (drop c.args.start (vals m)) m.calls found.0 (sym found.1)))) refl
    (c.enter.ensures.goes ds (found_light ds f d found.1))

pub returns-in_ok-share-in-Variable-clause-goes : goal.returns-in_ok-share-in-Variable-clause-goes
returns-in_ok-share-in-Variable-clause-goes c =
    let ds = c.args.world.now.functions.defs in
    let m = c.args.self.now in
    let f = c.args.name.now in
    let vs = drop c.args.start (vals m) in
    let found = rw c.in-Variable.is at c.find.ensures.callee in
    stops_on (act_of ds) (map (waiting (vals m)) m.frames.items) (act_of ds f vs m.calls) (Some (IsVariable f)) (variable_call ds f vs m.calls found.0 (sym found.1))
    ∙ ap (λ g. Stops (IsVariable g)) (sym c.in_ok-share-in-Variable.ensures)
