use Rattle.std.proofs.Common.{◌∷◌, ◌+ℤ◌, subst, sym, ap, ap₂, ◌∙◌, rules}
use Rattle.std.proofs.lemmas.Int.{to_z-of_z}
use mir.Syntax.{w128}
use mir.Val.{SFits}
use Rattle.ring_laws.specs.view.Held.{held, SameSum}
use Rattle.ring_laws.proofs.Maps.{added}
use Rattle.ring_laws.proofs.polynomial.Polynomial.add.Goals as goal

pub returns : goal.returns
returns c =
    let es = c.args.self.now.terms.entries in
    let fits : SFits w128 c.coefficient.result = search rules in
    let plain = ap₂ (λ x y. x +ℤ y) (to_z-of_z w128 c.coefficient.result fits) (to_z-of_z w128 c.args.factor c.ranges.factor) in
    let is = c.in-Some.ensures.1 ∙ plain ∙ ap (λ z. z +ℤ c.args.factor) c.coefficient.ensures in
    let stored = to_z-of_z w128 c.in-Some.sum (subst (SFits w128) (sym c.in-Some.ensures.1) c.in-Some.ensures.0) in
    subst (λ fs. SameSum (held fs) ((c.args.monomial.items, c.args.factor) ∷ held es)) (sym c.in_ok-insert.ensures.entries) (added es c.args.monomial c.args.factor _ c.len-entries.ensures.ordered (stored ∙ is))
