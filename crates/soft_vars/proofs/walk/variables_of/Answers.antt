use Rattle.std.proofs.Common.{◌∙◌, ap, sym, None}
use Rattle.std.proofs.lemmas.Result.{IfOk-weaker}
use Rattle.soft_vars.specs.Dependents.{each_once, dependence_of}
use Rattle.soft_vars.proofs.FirstOrder.{of_name}
use Rattle.soft_vars.proofs.Walking.{ready_one, found_one}
use Rattle.soft_vars.proofs.walk.variables_of.Goals as goal

pub returns-then-is_first_order : goal.returns-then-is_first_order
returns-then-is_first_order c = c.new.ensures ∙ sym (of_name c.args.world.now c.args.name.now (sym c.is_first_order.ensures ∙ c.if-is_first_order.true))

pub run-requires-clause-ready : goal.run-requires-clause-ready
run-requires-clause-ready c =
    ready_one c.args.world.now None c.new-walk.result.left.items c.add_visits.new.left.items c.in-Some.specification.now.matrix c.new-walk.result.found c.new-walk.ensures.left c.in_ok-add_visits.ensures

pub returns : goal.returns
returns c =
    let is =
    found_one c.args.world.now c.new-walk.result.left.items c.add_visits.new.left.items c.new-walk.result.found c.in-Some.specification.now.matrix c.new-walk.ensures.left c.new-walk.ensures.found c.in_ok-add_visits.ensures
    ∙ ap (λ o. each_once (dependence_of c.args.world.now o c.args.name.now)) c.in-Some.ensures.value in
    IfOk-weaker c.run.result _ _ (λ xs e. e ∙ is) c.run.ensures
