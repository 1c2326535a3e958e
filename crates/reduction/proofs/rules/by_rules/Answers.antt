use Rattle.std.proofs.Common.{◌≡◌, get_or, Some, sym, ◌∙◌, arith}
use Rattle.reduction.specs.Hyps.{left}
use Rattle.reduction.specs.Rules.{by_rule}
use Rattle.reduction.proofs.Firsts.{first-found}
use Rattle.reduction.proofs.rules.by_rules.Goals as goal

pub returns-in-Some : goal.returns-in-Some
returns-in-Some c =
    let rules = c.args.rules.now in
    let f = by_rule (left c.args.others.now) c.args.term.now in
    let here : f (get_or rules c.loop-rule.rule-index c.rule-item.result) ≡ Some c.in-Some.found = grind arith in
    sym (first-found f rules c.loop-rule.rule-index c.rule-item.result c.in-Some.found (omega arith) here) ∙ c.loop-rule.invariant
