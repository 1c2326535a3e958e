use Rattle.std.proofs.Common.{◌≡◌, length, ◌∙◌}
use Rattle.isodata_tool.proofs.Falling.{call-there, proof-there, all-at, falls-at}
use Rattle.isodata_tool.proofs.finishing.falls_at.Goals as goal

pub bounds-proved-number : goal.bounds-proved-number
bounds-proved-number c =
    let p = c.args.parts.now in
    proof-there p.world.now p.definition.now p.maps.now c.args.number c.args.sequent.now c.requires.falls c.args.calls.now c.requires.calls c.args.proved.now c.requires.proved

pub falls_there-requires-clause-lengths : goal.falls_there-requires-clause-lengths
falls_there-requires-clause-lengths c =
    let p = c.args.parts.now in
    all-at (λ a. length p.definition.now.formals ≡ length a.args) c.args.calls.now _ c.index-calls-number.result c.requires.lengths
    (call-there p.world.now p.definition.now p.maps.now c.args.number c.args.sequent.now c.requires.falls c.args.calls.now c.requires.calls) c.index-calls-number.is

pub checked-requires : goal.checked-requires
checked-requires c =
    let p = c.args.parts.now in
    falls-at p.world.now p.definition.now p.maps.now c.args.number c.args.sequent.now c.requires.falls c.in-Some.measure c.in-Some.is
    c.args.calls.now c.requires.calls c.args.proved.now c.requires.proved c.index-calls-number.result c.index-calls-number.is
    c.index-proved-number.result c.index-proved-number.is c.sequent-sequent.ensures.concludes c.in-Ok.place c.in-Ok.ensures.1
    c.in_ok-tree.tree c.in_ok-share.field-0 c.in_ok-tree.ensures (c.in_ok-share.ensures ∙ c.proof.ensures)
