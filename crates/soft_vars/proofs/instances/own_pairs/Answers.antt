use Rattle.std.proofs.Common.{◌∙◌, ap}
use Rattle.std.proofs.lemmas.Result.{IfOk-weaker}
use Rattle.terms.specs.Dependence.{function_dependence}
use Rattle.terms.specs.Instances.{restricted}
use Rattle.soft_vars.proofs.Owned.{restricted-once}
use Rattle.soft_vars.proofs.instances.own_pairs.Goals as goal

pub returns : goal.returns
returns c =
    IfOk-weaker c.restricted.result _ _
    (λ ps e. e ∙ ap (restricted c.args.pairs.now) c.in_ok-variables.ensures ∙ restricted-once c.args.pairs.now (function_dependence c.args.world.now c.args.name.now))
    c.restricted.ensures
