use Rattle.std.proofs.Common.{◌≡◌, ◌++◌, cond, map, take, length, [], ◌∷◌, refl, subst, ap, sym, ◌∙◌, arith}
use Rattle.std.proofs.lemmas.List.{length-map, map-append, take-map, length-take-le, take-take}
use Rattle.lisp_data.specs.ValueView.{val_of}
use Rattle.terms.specs.Primitives.{is_nil}
use Rattle.evaluator.specs.Counted.{counted}
use Rattle.evaluator.specs.view.Machines.{vals, waiting, act_of, env_of, weight, height, base, load, continue, Inside, Stacked}
use Rattle.evaluator.specs.declared.machine.Frame.{Frame}
use Rattle.evaluator.specs.declared.machine.Frame.TheVariants.{Branches}
use Rattle.evaluator.proofs.Steps.{stacked_more, base_le}
use Rattle.evaluator.proofs.Turns.{resumes, wakes, counted_cond, weight_cond}
use Rattle.evaluator.proofs.machine.Machine.resume.Goals as goal

pub proceed-requires-clause-stacked : goal.proceed-requires-clause-stacked
proceed-requires-clause-stacked c =
    let m = c.args.self.now in
    let same : base c.args.frame ≡ c.in-Arguments.start = ap base c.in-Arguments.is in
    subst (λ b. Stacked 0 m.frames.items b) same c.requires.stacked

pub returns-in_ok-push-in-Arguments-clause-goes : goal.returns-in_ok-push-in-Arguments-clause-goes
returns-in_ok-push-in-Arguments-clause-goes c =
    let ds = c.args.world.now.functions.defs in
    let m = c.args.self.now in
    let v = c.args.value in
    resumes ds m (record m { values = c.push.new.self }) c.proceed.new.self c.proceed.result c.args.frame _ (val_of v) c.in-Arguments.is tt refl refl
    (ap (map val_of) (c.in_ok-push-in-Arguments.ensures.items ∙ ap (λ us. us ++ v ∷ []) c.truncate.ensures.items) ∙ map-append val_of (take c.in-Arguments.height m.values.items) (v ∷ []) ∙ ap (λ us. us ++ val_of v ∷ []) (sym (take-map val_of c.in-Arguments.height m.values.items)))
    (omega (arith, c.requires.height, length-map m.values.items val_of))
    c.requires.stacked c.requires.inside c.proceed.ensures.goes

pub returns-in-Branches-clause-goes : goal.returns-in-Branches-clause-goes
returns-in-Branches-clause-goes c =
    let ds = c.args.world.now.functions.defs in
    let m = c.args.self.now in
    let v = val_of c.args.value in
    let hh = c.in-Branches.height in
    let items = c.truncate-in-Branches.new.self.items in
    let is = c.in-Branches.is in
    let cut = c.truncate-in-Branches.ensures.items in
    let same : height c.args.frame ≡ hh = ap height is in
    let long : length items ≡ hh = ap length cut ∙ length-take-le hh m.values.items (omega (arith, same, c.requires.height)) in
    let values : map val_of items ≡ take hh (vals m) = ap (map val_of) cut ∙ sym (take-map val_of hh m.values.items) in
    let inside : Inside (Branches c.in-Branches.yes c.in-Branches.no hh c.in-Branches.scope) = subst Inside is c.requires.inside in
    wakes ds m _ _ (continue (act_of ds) (waiting (vals m) c.args.frame) v m.calls) (load c.args.frame) (height c.args.frame) refl refl (stacked_more 0 (base c.args.frame) (height c.args.frame) m.frames.items c.requires.stacked (base_le c.args.frame c.requires.inside))
    (omega (arith, same, long))
    (sym (ap (take (height c.args.frame)) values ∙ take-take (height c.args.frame) hh (vals m) (omega (arith, same))))
    (omega (arith, long, inside))
    (ap (λ t. counted (act_of ds) t (env_of c.in-Branches.scope (map val_of items)) m.calls) c.chosen.ensures
    ∙ ap (λ us. counted (act_of ds) (cond (is_nil v) c.in-Branches.no.now c.in-Branches.yes.now) (env_of c.in-Branches.scope us) m.calls) values
    ∙ counted_cond (act_of ds) (is_nil v) c.in-Branches.no.now c.in-Branches.yes.now (env_of c.in-Branches.scope (take hh (vals m))) m.calls
    ∙ ap (λ (f : Frame). continue (act_of ds) (waiting (vals m) f) v m.calls) (sym is))
    (omega (arith, ap load is, ap weight c.chosen.ensures, weight_cond (is_nil v) c.in-Branches.no.now c.in-Branches.yes.now))
