use Rattle.std.proofs.Common.{◌≡◌, true, sym, subst, ◌∙◌}
use Rattle.terms.specs.declared.sequent.Sequent.{Sequent}
use Rattle.measures.specs.Calls.{call_of}
use Rattle.plans.specs.Proving.{proves}
use Rattle.restrict_tool.specs.Restrictions.{stays_restricted}
use Rattle.restrict_tool.proofs.Agreeing.{agrees-by}
use Rattle.restrict_tool.proofs.finishing.agreement_at.Goals as goal

pub checked-requires : goal.checked-requires
checked-requires c =
    let d = c.args.parts.now.definition.now in
    let g = c.args.parts.now.function.now in
    let r = c.args.parts.now.restriction.now in
    let k = call_of c.args.call.now in
    agrees-by c.args.next.now d g r k c.requires.agrees c.in_ok-met.met c.in_ok-met.ensures.world c.sequent-sequent.ensures.concludes
    (subst (λ (s : Sequent). proves s (stays_restricted d r k) ≡ true) (sym c.in_ok-met.ensures.sequent) c.requires.met)
    c.in_ok-condition.condition c.in_ok-condition.ensures c.in_ok-tree.tree c.in_ok-share.field-0 c.in_ok-tree.ensures (c.in_ok-share.ensures ∙ c.proof.ensures)
