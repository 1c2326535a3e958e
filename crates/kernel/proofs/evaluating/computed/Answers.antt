use Rattle.std.proofs.Common.{rules, ◌≡◌, true}
use Rattle.kernel.specs.Fitting.{fits}
use Rattle.kernel.specs.Evaluating.{is_ground}
use Rattle.kernel.proofs.Evaluations.{evaluable}
use Rattle.kernel.proofs.evaluating.computed.Goals as goal

pub value_of-requires : goal.value_of-requires
value_of-requires c =
    let fit : fits c.args.world.now.functions c.args.term.now ≡ true = search rules in
    let ground : is_ground c.args.term.now ≡ true = search rules in
    evaluable c.args.world.now.functions c.args.term.now fit ground
