use Rattle.std.proofs.Common.{map, refl, sym, ap, ◌∙◌, subst}
use Rattle.measures.specs.Calls.{call_of}
use Rattle.plans.specs.Proving.{ProvesAll}
use Rattle.isodata_tool.specs.Carried.{stays_old}
use Rattle.isodata_tool.specs.Parts.{theorems}
use Rattle.isodata_tool.specs.view.Requests.{request_seen}
use Rattle.isodata_tool.proofs.NewWorld.{counted, owed_before, admits, both, later, conditions_met, claimed_after}
use Rattle.isodata_tool.proofs.finishing.claims.Goals as goal

pub calls_of-requires : goal.calls_of-requires
calls_of-requires c =
    let p = c.args.parts.now in
    counted p.world.now c.soundness.ensures (request_seen c.args.request.now) c.requires.new p.definition.now p.maps.now c.args.plan.now c.requires.parts

pub owing-requires-clause-counted : goal.owing-requires-clause-counted
owing-requires-clause-counted c =
    let p = c.args.parts.now in
    counted p.world.now c.soundness.ensures (request_seen c.args.request.now) c.requires.new p.definition.now p.maps.now c.args.plan.now c.requires.parts

pub owing-requires-clause-proved : goal.owing-requires-clause-proved
owing-requires-clause-proved c =
    let p = c.args.parts.now in
    subst (λ cs. ProvesAll p.world.now (map (stays_old p.definition.now p.maps.now) cs) c.args.proved.now)
    (sym (ap (map call_of) c.as_slice-calls.ensures ∙ c.in_ok-calls.ensures.calls))
    (conditions_met p.world.now c.soundness.ensures (request_seen c.args.request.now) c.requires.new p.definition.now p.maps.now c.args.plan.now c.requires.parts
    c.args.proved.now c.requires.proved p.world.now refl)

pub owing-requires-clause-owed : goal.owing-requires-clause-owed
owing-requires-clause-owed c =
    let p = c.args.parts.now in
    owed_before p.world.now c.soundness.ensures (request_seen c.args.request.now) c.requires.new p.definition.now p.maps.now c.args.plan.now c.requires.parts
    c.isomorphic_owes.ensures c.as_slice.result.now c.as_slice.ensures

pub install_functions-requires : goal.install_functions-requires
install_functions-requires c =
    let p = c.args.parts.now in
    admits p.world.now c.soundness.ensures (request_seen c.args.request.now) c.requires.new p.definition.now p.maps.now c.args.plan.now c.requires.parts
    c.as_slice-2.result.now c.as_slice-2.ensures c.all_hold.ensures c.as_slice-4.result.now c.as_slice-4.ensures

pub theorems-requires-clause-counted : goal.theorems-requires-clause-counted
theorems-requires-clause-counted c =
    let p = c.args.parts.now in
    counted p.world.now c.soundness.ensures (request_seen c.args.request.now) c.requires.new p.definition.now p.maps.now c.args.plan.now c.requires.parts

pub theorems-requires-clause-both : goal.theorems-requires-clause-both
theorems-requires-clause-both c =
    let p = c.args.parts.now in
    both p.world.now c.soundness.ensures (request_seen c.args.request.now) c.requires.new p.definition.now p.maps.now c.args.plan.now c.requires.parts
    c.in_ok-next.next c.as_slice-4.result.now c.as_slice-4.ensures c.in_ok-next.ensures p.function.now c.requires.function

pub theorems-requires-clause-later : goal.theorems-requires-clause-later
theorems-requires-clause-later c =
    let p = c.args.parts.now in
    later p.world.now c.soundness.ensures (request_seen c.args.request.now) c.requires.new p.definition.now p.maps.now c.args.plan.now c.requires.parts
    c.in_ok-next.next c.as_slice-4.result.now c.as_slice-4.ensures c.in_ok-next.ensures p.world.now refl

pub theorems-requires-clause-proved : goal.theorems-requires-clause-proved
theorems-requires-clause-proved c =
    let p = c.args.parts.now in
    subst (λ cs. ProvesAll p.world.now (map (stays_old p.definition.now p.maps.now) cs) c.args.proved.now)
    (sym (ap (map call_of) c.as_slice-calls.ensures ∙ c.in_ok-calls.ensures.calls))
    (conditions_met p.world.now c.soundness.ensures (request_seen c.args.request.now) c.requires.new p.definition.now p.maps.now c.args.plan.now c.requires.parts
    c.args.proved.now c.requires.proved p.world.now refl)

pub returns : goal.returns
returns c =
    let p = c.args.parts.now in (
      subst (λ ss. ProvesAll p.world.now ss c.in_ok-before.before) c.as_slice.ensures c.in_ok-before.ensures,
      claimed_after p.world.now c.soundness.ensures (request_seen c.args.request.now) c.requires.new p.definition.now p.maps.now c.args.plan.now c.requires.parts
          c.in_ok-next.next c.as_slice-4.result.now c.as_slice-4.ensures c.in_ok-next.ensures c.in_ok-after.after
          (subst (λ g. ProvesAll c.in_ok-next.next (theorems p.definition.now g p.maps.now) c.in_ok-after.after) c.requires.function c.in_ok-after.ensures),
    )
