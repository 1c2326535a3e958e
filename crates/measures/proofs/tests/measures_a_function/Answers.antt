use Rattle.std.proofs.Common.{◌≡◌, length, ap, sym, ◌∙◌, ◌++◌, ◌∷◌, []}
use Rattle.terms.proofs.Extend.{over_map}
use Rattle.measures.proofs.tests.measures_a_function.Goals as goal

pub obligations-requires-clause-arity : goal.obligations-requires-clause-arity
obligations-requires-clause-arity g c =
    let formals = c.push.new.self in
    let one : length formals ≡ 1 = ap length (c.in_ok-push.ensures.ok ∙ ap (λ ys. ys ++ c.in_ok-new.field-0 ∷ []) c.new-formals.ensures) in
    over_map (λ x. Unit {0}) (λ x. Unit {0}) (λ f k. k ≡ 1) (λ f k. f ≡ c.in_ok-name.name → k ≡ length formals) (λ x p. tt) (λ f k is own. is ∙ sym one) c.in_ok-body.body c.in_ok-body.ensures
