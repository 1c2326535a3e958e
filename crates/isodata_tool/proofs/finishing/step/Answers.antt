use Rattle.std.proofs.Common.{◌∙◌}
use Rattle.isodata_tool.proofs.Agreeing.{step-by}
use Rattle.isodata_tool.proofs.finishing.step.Goals as goal

pub checked-requires : goal.checked-requires
checked-requires c =
    let p = c.args.parts.now in
    step-by c.unfolding_proves.ensures c.args.next.now c.soundness.ensures p.definition.now p.function.now p.maps.now c.requires.both
    c.args.bodies.now c.requires.world c.sequent-sequent.ensures.concludes c.requires.bodies
    c.new.result c.in_ok-theorem_at_calls.field-0 c.in_ok-share.field-0 c.args.theorem.now
    c.new.ensures c.in_ok-theorem_at_calls.ensures c.in_ok-share.ensures c.requires.theorem
    c.in_ok-tree.tree c.in_ok-share-2.field-0 c.in_ok-tree.ensures (c.in_ok-share-2.ensures ∙ c.proof.ensures)
