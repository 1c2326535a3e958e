use Rattle.std.proofs.Common.{◌≡◌, true, sym, subst, ◌∙◌}
use Rattle.terms.specs.declared.sequent.Sequent.{Sequent}
use Rattle.measures.specs.Calls.{call_of}
use Rattle.plans.specs.Proving.{proves}
use Rattle.isodata_tool.specs.Carried.{stays_old}
use Rattle.isodata_tool.proofs.Agreeing.{agrees-by}
use Rattle.isodata_tool.proofs.finishing.agreement_at.Goals as goal

pub checked-requires : goal.checked-requires
checked-requires c =
    let d = c.args.parts.now.definition.now in
    let g = c.args.parts.now.function.now in
    let ms = c.args.parts.now.maps.now in
    let k = call_of c.args.call.now in
    agrees-by c.args.next.now d g ms k c.requires.agrees c.in_ok-stays.stays c.in_ok-stays.ensures.world c.sequent-sequent.ensures.concludes
    (subst (λ (s : Sequent). proves s (stays_old d ms k) ≡ true) (sym c.in_ok-stays.ensures.sequent) c.requires.stays)
    c.in_ok-condition.condition c.in_ok-condition.ensures c.in_ok-tree.tree c.in_ok-share.field-0 c.in_ok-tree.ensures (c.in_ok-share.ensures ∙ c.proof.ensures)
