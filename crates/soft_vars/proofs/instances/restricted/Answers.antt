use Rattle.std.proofs.Common.{◌≡◌, ◌≤◌, ◌++◌, ◌∙◌, [], length, drop, sym, ap, append-nil, arith}
use Rattle.std.proofs.lemmas.List.{drop_all}
use Rattle.terms.specs.Instances.{restricted}
use Rattle.soft_vars.proofs.instances.restricted.Goals as goal

pub returns : goal.returns
returns c =
    let end : length c.as_slice-pair-items.result.now ≤ c.loop-pair.pair-index = omega (arith, c.loop-pair-test.false) in
    sym (append-nil c.loop-pair.own)
    ∙ sym (ap (λ ps. c.loop-pair.own ++ restricted ps c.args.variables.now) (drop_all c.loop-pair.pair-index c.as_slice-pair-items.result.now end))
    ∙ c.loop-pair.invariant
