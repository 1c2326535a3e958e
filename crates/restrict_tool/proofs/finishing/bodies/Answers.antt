use Rattle.std.proofs.Common.{sym, subst}
use Rattle.lisp_data.specs.ValueView.{val_of}
use Rattle.terms.specs.Worlds.{Fits}
use Rattle.restrict_tool.specs.Proofs.{agreements}
use Rattle.restrict_tool.proofs.Agreeing.{old_body_fits, new_body_fits, new_alike, differences-proved}
use Rattle.tool_parts.proofs.Proving.{proofs-in}
use Rattle.restrict_tool.proofs.finishing.bodies.Goals as goal

pub body_congruence-requires-clause-old : goal.body_congruence-requires-clause-old
body_congruence-requires-clause-old c =
    let p = c.args.parts.now in
    old_body_fits c.args.next.now c.soundness.ensures p.definition.now p.function.now p.restriction.now (val_of p.undefined.now) c.requires.both

pub body_congruence-requires-clause-new : goal.body_congruence-requires-clause-new
body_congruence-requires-clause-new c =
    let p = c.args.parts.now in
    subst (Fits c.args.next.now.functions) (sym c.in_ok-new.ensures)
    (new_body_fits c.args.next.now c.soundness.ensures p.definition.now p.function.now p.restriction.now (val_of p.undefined.now) c.requires.both)

pub body_congruence-requires-clause-alike : goal.body_congruence-requires-clause-alike
body_congruence-requires-clause-alike c =
    let p = c.args.parts.now in
    new_alike c.bodies_are_alike.ensures c.args.next.now p.definition.now p.function.now p.restriction.now c.requires.both.two c.requires.counted.flat c.in_ok-new.new c.in_ok-new.ensures

pub body_congruence-requires-clause-worlds : goal.body_congruence-requires-clause-worlds
body_congruence-requires-clause-worlds c =
    let p = c.args.parts.now in
    proofs-in c.args.next.now (agreements p.definition.now p.function.now p.restriction.now) c.args.agreements.now c.requires.agreements

pub body_congruence-requires-clause-calls : goal.body_congruence-requires-clause-calls
body_congruence-requires-clause-calls c =
    let p = c.args.parts.now in
    differences-proved c.bodies_are_alike.ensures c.args.next.now p.definition.now p.function.now p.restriction.now c.requires.both.two c.requires.counted.flat c.in_ok-new.new c.in_ok-new.ensures c.args.agreements.now c.requires.agreements c.in_ok-condition.condition c.in_ok-condition.ensures
