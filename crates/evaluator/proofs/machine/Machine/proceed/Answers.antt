use Rattle.std.proofs.Common.{◌-◌, take, drop, length, ◌∷◌, refl, ap, sym, ◌∙◌, arith}
use Rattle.std.proofs.lemmas.List.{take_all, length-map, drop_more, take_rest}
use Rattle.lisp_data.specs.ValueView.{val_of}
use Rattle.terms.specs.Terms.{tms}
use Rattle.evaluator.specs.view.Machines.{vals, env_of, Rest}
use Rattle.evaluator.proofs.Turns.{proceeds}
use Rattle.evaluator.proofs.machine.Machine.proceed.Goals as goal

pub returns-clause-goes : goal.returns-clause-goes
returns-clause-goes c =
    let ds = c.args.world.now.functions.defs in
    let m = c.args.self.now in
    let env = env_of c.args.scope (vals m) in
    let cut = take_all c.len-height.result (vals m) (omega (arith, c.len-height.ensures, length-map m.values.items val_of)) in
    let rest = take (length c.args.rest.now - 1) (drop 1 c.args.rest.now) in
    proceeds ds m _ _ _ c.args.name.now (drop c.args.start (vals m)) c.args.rest.now rest env c.first-item.result
    (drop_more c.args.rest.now 0 c.first-item.result (omega (arith, c.in-len1-up.len_at_least)) ∙ ap (λ t. t ∷ drop 1 c.args.rest.now) (sym c.first-item.is) ∙ ap (λ l. c.first-item.result ∷ l) (sym (take_rest c.args.rest.now 1)))
    c.in_ok-push.ensures.items refl refl c.requires.stacked (omega (arith, c.len-height.ensures))
    (omega (arith, c.len-height.ensures, c.requires.start), omega (arith, c.len-height.ensures, c.requires.lies)) c.requires.lies
    (ap (λ us. Rest c.args.name.now (drop c.args.start us) (tms rest) (env_of c.args.scope us)) cut) refl (omega arith)
