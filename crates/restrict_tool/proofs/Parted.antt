-- The parts of a restriction's plan are those of which it was made.
use Rattle.std.proofs.Common.{◌≡◌, is_some, Some, Ok, IsSome, sym, ap, ◌∙◌, subst}
use Rattle.terms.specs.Definitions.{find}
use Rattle.terms.specs.Sound.{Sound}
use Rattle.terms.specs.Terms.{Tm}
use Rattle.terms.specs.Worlds.{World}
use Rattle.terms.specs.declared.definition.Definition.{Definition}
use Rattle.plans.specs.declared.plan.Plan.{Plan}
use Rattle.restrict_tool.specs.Parts.{AreParts, restriction_in}
use Rattle.restrict_tool.specs.Restrictions.{Request, plan_of}
use Rattle.restrict_tool.proofs.Planned.{IsPlanned, planned_is}

some_same : {A : Type 0} (x y : A) → Some x ≡ Some y → x ≡ y
some_same x y e = cc

module _ (W : World) (sound : Sound W) (q : Request) (p : Plan) (planned : plan_of W q ≡ Ok p) where
  it : IsPlanned W q p
  it = planned_is W sound q p planned

  third : restriction_in p.entries ≡ Some it.restriction
  third = ap (λ z. restriction_in z.entries) (sym it.plan)

  pub has_restriction : IsSome (restriction_in p.entries)
  has_restriction = ap is_some third

  pub are_parts : (d : Definition) → find W.functions.defs q.old ≡ Some d → (r : Tm) → restriction_in p.entries ≡ Some r → AreParts W q d r p
  are_parts d f r h =
      subst (λ e. AreParts W q e r p) (some_same it.definition d (sym it.named ∙ f))
      (subst (λ s. AreParts W q it.definition s p) (some_same it.restriction r (sym third ∙ h)) (record { found = it.found; restriction = it.fits; plan = sym it.plan }))
