-- The parts of a plan, and what its theorem's proof makes of a proof for each recursive call.
use Rattle.std.specs.Prelude.{◌≡◌, List, ◌∷◌, Option, Some, None}
use Rattle.lisp_data.specs.Values.{Name}
use Rattle.terms.specs.Definitions.{find}
use Rattle.terms.specs.Formed.{FitsOver}
use Rattle.terms.specs.Measures.{RecursiveCall}
use Rattle.terms.specs.Terms.{Tm}
use Rattle.terms.specs.Worlds.{World}
use Rattle.terms.specs.declared.definition.Definition.{Definition}
use Rattle.terms.specs.declared.entries.Link.TheVariants.{Restriction}
use Rattle.plans.specs.declared.plan.Entry.{Entry}
use Rattle.plans.specs.declared.plan.Entry.TheVariants.{Chained}
use Rattle.plans.specs.declared.plan.Plan.{Plan}
use Rattle.reduction_proofs.specs.Proving.{ProvesCondition}
use Rattle.reduction_proofs.specs.Trees.{Proof}
use Rattle.restrict_tool.specs.Proofs.{agreement, by_hypothesis}
use Rattle.restrict_tool.specs.Restrictions.{Request, planned, stays_restricted}

-- the restriction of the link, which is a plan's third entry
abbrev pub restriction_in : List Entry → Option Tm
restriction_in (f ∷ t ∷ Chained n (Restriction old new formals r) ∷ es) = Some r
restriction_in _ = None

-- d and r are the old function and the restriction of the plan
pub record AreParts (W : World) (q : Request) (d : Definition) (r : Tm) (p : Plan) : Type 0 where
  pub found : find W.functions.defs d.name ≡ Some d
  pub restriction : FitsOver W.functions d.formals r
  pub plan : p ≡ planned q d r

-- at the call the functions agree, where a proof says that its arguments meet the restriction
abbrev pub Agrees : World → Definition → Name → Tm → RecursiveCall → Type 0
Agrees W d g r c =
    (P : Proof) → ProvesCondition W (stays_restricted d r c) P → ProvesCondition W (agreement d g r c) (by_hypothesis d g r c P)
