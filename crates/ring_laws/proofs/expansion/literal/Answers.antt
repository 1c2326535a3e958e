use Rattle.std.proofs.Common.{[], ◌∷◌, nat_abs, ap, subst, ◌∙◌}
use Rattle.std.proofs.lemmas.Int.{to_z-of_z}
use mir.Syntax.{w128}
use Rattle.ring_laws.specs.view.Held.{held}
use Rattle.ring_laws.specs.view.Expansions.{SaysSum}
use Rattle.ring_laws.proofs.Expansions.{says_along, one_entry}
use Rattle.ring_laws.proofs.expansion.literal.Goals as goal

pub returns : goal.returns
returns c =
    let stored = to_z-of_z w128 c.args.number c.ranges.number in
    let one = one_entry (held c.add.new.self.terms.entries) (held c.zero-polynomial.result.terms.entries) [] _ c.args.number _ c.zero-polynomial.ensures c.new.ensures.items stored c.in_ok-add.ensures in
    subst (λ n. SaysSum c.small.result n (([], c.args.number) ∷ [])) (c.unsigned_abs-norm.ensures.value ∙ ap nat_abs stored) (
    says_along c.small.result c.unsigned_abs-norm.result (held c.add.new.self.terms.entries) _ one c.small.ensures
    )
