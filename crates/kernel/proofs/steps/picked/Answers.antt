use Rattle.std.proofs.Common.{rules, ◌≡◌, ◌+◌, ◌<◌, ◌++◌, ◌∷◌, [], List, length, drop, get_or, Some, sym, ◌∙◌, subst}
use Rattle.kernel.specs.Conclusion.{Conclusion, sequents_of, AllIn}
use Rattle.kernel.specs.Facts.{item}
use Rattle.kernel.specs.StepLists.{items}
use Rattle.kernel.proofs.Picked.{picks, picks-next, AllIn-push, AllIn-item}
use Rattle.kernel.proofs.steps.picked.Goals as goal

pub loop-number-preserved : goal.loop-number-preserved
loop-number-preserved c =
    let i = c.loop-number.number-index in
    let before : List Conclusion = c.loop-number.premises in
    let there : i < length c.args.from.now = search rules in
    let found : item c.args.done.now (get_or c.args.from.now i 0) ≡ Some c.in-Some.premise = search rules in
    let pushed : (before ++ c.in-Some.premise ∷ []) ≡ c.push.new.self = search rules in
    let rest = sym (picks-next c.args.done.now before c.in-Some.premise c.args.from.now i 0 there found) ∙ c.loop-number.invariant.rest in
    let here = AllIn-push c.args.world.now before c.in-Some.premise c.loop-number.invariant.here (AllIn-item c.args.world.now c.args.done.now (get_or c.args.from.now i 0) c.in-Some.premise c.requires found) in
    record {
      rest = subst (λ cs. picks c.args.done.now cs (drop (i + 1) c.args.from.now) ≡ items (sequents_of c.args.done.now) c.args.from.now) pushed rest;
      here = subst (AllIn c.args.world.now) pushed here;
    }
