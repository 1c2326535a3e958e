use Rattle.std.proofs.Common.{◌∙◌, ap, sym, None}
use Rattle.std.proofs.lemmas.Result.{IfOk-weaker}
use Rattle.terms.specs.Terms.{tms}
use Rattle.soft_vars.specs.Dependents.{variables_in}
use Rattle.soft_vars.proofs.FirstOrder.{of_terms}
use Rattle.soft_vars.proofs.Walking.{ready_alone, found_alone}
use Rattle.soft_vars.proofs.walk.variables_in.Goals as goal

pub returns-then-is_first_order : goal.returns-then-is_first_order
returns-then-is_first_order c = c.new.ensures ∙ sym (of_terms c.args.world.now c.args.terms.now (sym c.is_first_order.ensures ∙ c.if-is_first_order.true))

pub run-requires-clause-ready : goal.run-requires-clause-ready
run-requires-clause-ready c =
    ready_alone c.args.world.now None c.new-walk.result.left.items c.add_all_visits.new.left.items (tms c.as_slice.result.now) c.new-walk.result.found c.new-walk.ensures.left c.in_ok-add_all_visits.ensures

pub returns : goal.returns
returns c =
    let is =
    found_alone c.args.world.now c.new-walk.result.left.items c.add_all_visits.new.left.items c.new-walk.result.found (tms c.as_slice.result.now) c.new-walk.ensures.left c.new-walk.ensures.found c.in_ok-add_all_visits.ensures
    ∙ ap (variables_in c.args.world.now) c.as_slice.ensures in
    IfOk-weaker c.run.result _ _ (λ xs e. e ∙ is) c.run.ensures
