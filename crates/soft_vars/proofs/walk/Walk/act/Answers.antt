use Rattle.std.proofs.Common.{OnOk, sym, refl, subst}
use Rattle.soft_vars.specs.view.Walks.{Follows}
use Rattle.soft_vars.proofs.Walking.{left_function}
use Rattle.soft_vars.proofs.walk.Walk.act.Goals as goal

pub returns-in-Visit : goal.returns-in-Visit
returns-in-Visit c = subst (λ t. OnOk c.visit.result (Follows c.args.world.now t c.args.self.now c.visit.new.self)) (sym c.in-Visit.is) c.visit.ensures

pub returns-in_ok-insert-in-Leave : goal.returns-in_ok-insert-in-Leave
returns-in_ok-insert-in-Leave c =
    subst (λ t. Follows c.args.world.now t c.args.self.now (record { left = c.args.self.now.left; done = c.insert.new.self; found = c.args.self.now.found })) (sym c.in-Leave.is)
    (left_function c.args.world.now c.in-Leave.name c.args.self.now (record { left = c.args.self.now.left; done = c.insert.new.self; found = c.args.self.now.found }) refl refl c.in_ok-insert-in-Leave.ensures.keys)
