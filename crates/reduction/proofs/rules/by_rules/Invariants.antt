use Rattle.std.proofs.Common.{◌≡◌, drop}
use Rattle.reduction.specs.Hyps.{left}
use Rattle.reduction.specs.Finding.{first}
use Rattle.reduction.specs.Rules.{by_rule}
use Rattle.reduction.proofs.rules.by_rules.Given as goal

abbrev pub invariant-loop-rule : goal.invariant-loop-rule
invariant-loop-rule l =
    let f = by_rule (left l.others) l.term in
    first f (drop l.rule-index l.rules) ≡ first f l.rules
