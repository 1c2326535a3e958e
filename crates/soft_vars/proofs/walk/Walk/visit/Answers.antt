use Rattle.std.proofs.Common.{◌∙◌, ◌≡◌, true, false, is_some, sym, ap, refl}
use Rattle.std.proofs.lemmas.Result.{on_ok_weaker}
use Rattle.terms.specs.Primitives.{lookup}
use Rattle.soft_vars.proofs.Walking.{was_done, met_variable, met_nothing, met_function, on_ok_three}
use Rattle.soft_vars.proofs.walk.Walk.visit.Goals as goal

pub returns-then-contains : goal.returns-then-contains
returns-then-contains c =
    was_done c.args.world.now c.args.name c.args.self.now (record { left = c.args.self.now.left; done = c.args.self.now.done; found = c.args.self.now.found }) refl refl refl
    (sym c.contains.ensures ∙ c.if-contains.true)

pub returns-in-Some : goal.returns-in-Some
returns-in-Some c =
    on_ok_three c.enter.result
    (λ left done found. met_function c.args.world.now c.args.name c.args.self.now c.enter.new.self c.in-Some.definition.now c.soundness.ensures (sym c.in-Some.ensures) left done found)
    c.enter.ensures.left c.enter.ensures.done c.enter.ensures.found

pub returns-then-is_some : goal.returns-then-is_some
returns-then-is_some c =
    let v : is_some (lookup c.args.world.now.functions.vars c.args.name) ≡ true = ap is_some (sym c.variable_arity.ensures) ∙ sym c.is_some.ensures ∙ c.if-is_some.true in
    on_ok_weaker c.add_name.result
    (λ e. met_variable c.args.world.now c.args.name c.args.self.now (record { left = c.args.self.now.left; done = c.args.self.now.done; found = c.add_name.new.found }) refl refl (sym c.in_default.ensures) v e)
    c.add_name.ensures

pub returns : goal.returns
returns c =
    let v : is_some (lookup c.args.world.now.functions.vars c.args.name) ≡ false = ap is_some (sym c.variable_arity.ensures) ∙ sym c.is_some.ensures ∙ c.if-is_some.false in
    met_nothing c.args.world.now c.args.name c.args.self.now (record { left = c.args.self.now.left; done = c.args.self.now.done; found = c.args.self.now.found }) refl refl (sym c.in_default.ensures) v refl
