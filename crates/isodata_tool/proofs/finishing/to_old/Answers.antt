use Rattle.std.proofs.Common.{ap, ◌∙◌}
use Rattle.terms.specs.Links.{alone}
use Rattle.isodata_tool.proofs.Agreeing.{turns-by}
use Rattle.isodata_tool.proofs.finishing.to_old.Goals as goal

pub checked-requires : goal.checked-requires
checked-requires c =
    let p = c.args.parts.now in
    turns-by c.turning_proves.ensures c.args.next.now c.soundness.ensures p.definition.now p.function.now p.maps.now c.requires.both
    c.args.to_new.now c.requires.world c.sequent-sequent.ensures.concludes c.requires.proves
    c.alone.result (c.alone.ensures ∙ ap alone c.in_ok-goal.ensures)
    c.in_ok-tree.tree c.in_ok-share.field-0 c.in_ok-tree.ensures (c.in_ok-share.ensures ∙ c.proof.ensures)
