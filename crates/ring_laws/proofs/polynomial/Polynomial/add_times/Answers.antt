use Rattle.std.proofs.Common.{◌++◌, ◌*ℤ◌, subst, sym, ap, ap₂, ◌∙◌, rules}
use Rattle.std.proofs.lemmas.Int.{to_z-of_z}
use mir.Syntax.{w128}
use mir.Val.{SFits}
use Rattle.ring_laws.specs.FormalSums.{times_each}
use Rattle.ring_laws.specs.view.Held.{held, together, SameSum}
use Rattle.ring_laws.proofs.Maps.{times_over}
use Rattle.ring_laws.proofs.polynomial.Polynomial.add_times.Goals as goal

pub loop-others-preserved : goal.loop-others-preserved
loop-others-preserved c =
    let product = c.in-Some-checked_mul.ensures in
    let stored = to_z-of_z w128 c.in-Some-checked_mul.product (subst (SFits w128) (sym product.1) product.0) in
    let factor_fits : SFits w128 c.args.factor.now = search rules in
    let other_fits : SFits w128 c.in-Some.other_factor.now = search rules in
    let plain = ap₂ (λ x y. x *ℤ y) (to_z-of_z w128 c.args.factor.now factor_fits) (to_z-of_z w128 c.in-Some.other_factor.now other_fits) in
    let all = held c.args.self.now.terms.entries ++ times_each together (c.args.monomial.now, c.args.factor.now) (held c.args.other.now.terms.entries) in
    times_over (held c.loop-others.self.terms.entries) (held c.add.new.self.terms.entries) (held c.next.new.self) all c.args.monomial.now c.args.factor.now
    (c.in-Some.others.now.items, c.in-Some.other_factor.now) _ c.in_ok-together.field-0.items
    (c.in_ok-together.ensures ∙ ap (together c.args.monomial.now) c.as_slice.ensures.value)
    (stored ∙ product.1 ∙ plain)
    c.in_ok-add.ensures
    (subst (λ it. SameSum (held c.loop-others.self.terms.entries ++ times_each together (c.args.monomial.now, c.args.factor.now) (held it)) all) c.in-Some.ensures.steps c.loop-others.invariant)
