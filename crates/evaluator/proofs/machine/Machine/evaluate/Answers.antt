use Rattle.std.proofs.Common.{◌≡◌, ◌+◌, cond, map, [], subst, ap, sym, ◌∙◌, arith}
use Rattle.std.proofs.lemmas.List.{length-map, drop_all}
use Rattle.lisp_data.specs.ValueView.{val_of}
use Rattle.terms.specs.Terms.{Var, Call, tms}
use Rattle.terms.specs.TermView.{tm_of}
use Rattle.terms.specs.Evaluation.{bind}
use Rattle.evaluator.specs.Counted.{found_in, counted, gathered, taken, steps}
use Rattle.evaluator.specs.view.Machines.{vals, waiting, whole, act_of, env_of, effort, weight, weights, refusal, StopsWith}
use Rattle.evaluator.specs.declared.machine.Control.TheVariants.{Give}
use Rattle.evaluator.proofs.Steps.{stops_on}
use Rattle.evaluator.proofs.Turns.{goes_on, goes_as, slice_vals, not_found}
use Rattle.evaluator.proofs.machine.Machine.evaluate.Goals as goal

pub returns-then-is_if-clause-goes : goal.returns-then-is_if-clause-goes
returns-then-is_if-clause-goes c =
    let ds = c.args.world.now.functions.defs in
    let m = c.args.self.now in
    let env = env_of c.args.scope (vals m) in
    let ts = c.in-Call.args in
    let is : Call c.in-Call.name (tms ts) ≡ c.args.term.now = ap tm_of (sym c.in-Call.is) ∙ c.node.ensures in
    goes_as ds _ _ _ _ _ c.choose.result
    (ap (whole ds m)
    (ap (λ us. taken (steps (act_of ds) (tms us) env) m.calls) c.as_slice.ensures
    ∙ ap (λ b. cond b (taken (steps (act_of ds) (tms ts) env)) (gathered (act_of ds c.in-Call.name) [] (steps (act_of ds) (tms ts) env)) m.calls) (sym (sym c.is_if.ensures ∙ c.if-is_if.true))
    ∙ ap (λ t. counted (act_of ds) t env m.calls) is))
    (ap (λ us. effort ds m (1 + weights (tms us))) c.as_slice.ensures ∙ ap (λ t. effort ds m (weight t)) is)
    (c.choose.ensures.goes ds)

pub returns-in-Ok-clause-goes : goal.returns-in-Ok-clause-goes
returns-in-Ok-clause-goes c =
    let ds = c.args.world.now.functions.defs in
    let m = c.args.self.now in
    let env = env_of c.args.scope (vals m) in
    let is : Var c.in-Var.name ≡ c.args.term.now = ap tm_of (sym c.in-Var.is) ∙ c.node.ensures in
    goes_on ds m (Give c.in-Ok.value) (counted (act_of ds) c.args.term.now env m.calls) (weight c.args.term.now) c.requires.stacked tt
    (sym (ap (λ t. counted (act_of ds) t env m.calls) (sym is)
    ∙ ap (λ o. found_in o m.calls) (ap (λ l. bind c.args.scope.formals.now l c.in-Var.name) (sym (slice_vals c.deref.result.now m.values.items c.args.scope.start c.deref.ensures.value)) ∙ c.in-Ok.ensures)))
    (omega (arith, ap weight is))

pub returns-in-Err-clause-goes : goal.returns-in-Err-clause-goes
returns-in-Err-clause-goes c =
    let ds = c.args.world.now.functions.defs in
    let m = c.args.self.now in
    let env = env_of c.args.scope (vals m) in
    let is : Var c.in-Var.name ≡ c.args.term.now = ap tm_of (sym c.in-Var.is) ∙ c.node.ensures in
    stops_on (act_of ds) (map (waiting (vals m)) m.frames.items) (counted (act_of ds) c.args.term.now env m.calls) (refusal c.in-Err.halt)
    (subst (λ o. StopsWith o (refusal c.in-Err.halt))
    (sym (ap (λ t. counted (act_of ds) t env m.calls) (sym is)
    ∙ ap (λ l. found_in (bind c.args.scope.formals.now l c.in-Var.name) m.calls) (sym (slice_vals c.deref.result.now m.values.items c.args.scope.start c.deref.ensures.value))))
    (not_found (refusal c.in-Err.halt) _ m.calls c.in-Err.ensures))

pub returns-else-is_if-clause-goes : goal.returns-else-is_if-clause-goes
returns-else-is_if-clause-goes c =
    let ds = c.args.world.now.functions.defs in
    let m = c.args.self.now in
    let env = env_of c.args.scope (vals m) in
    let ts = c.in-Call.args in
    let f = c.in-Call.name in
    let is : Call f (tms ts) ≡ c.args.term.now = ap tm_of (sym c.in-Call.is) ∙ c.node.ensures in
    let start = drop_all c.len-start.result (vals m) (omega (arith, c.len-start.ensures, length-map m.values.items val_of)) in
    goes_as ds _ _ _ _ _ c.proceed.result
    (ap (whole ds m)
    (ap (λ vs. gathered (act_of ds f) vs (steps (act_of ds) (tms c.as_slice-in-Call.result.now) env) m.calls) start
    ∙ ap (λ us. gathered (act_of ds f) [] (steps (act_of ds) (tms us) env) m.calls) c.as_slice-in-Call.ensures
    ∙ ap (λ b. cond b (taken (steps (act_of ds) (tms ts) env)) (gathered (act_of ds f) [] (steps (act_of ds) (tms ts) env)) m.calls) (sym (sym c.is_if.ensures ∙ c.if-is_if.false))
    ∙ ap (λ t. counted (act_of ds) t env m.calls) is))
    (ap (λ us. effort ds m (1 + weights (tms us))) c.as_slice-in-Call.ensures ∙ ap (λ t. effort ds m (weight t)) is)
    c.proceed.ensures.goes
