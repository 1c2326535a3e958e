use Rattle.std.proofs.Common.{◌≡◌, ◌<◌, ◌≤◌, length, map, sym, ap, ◌∙◌, subst, arith}
use Rattle.lisp_data.specs.ValueView.{val_of}
use Rattle.measures.specs.Calls.{call_of}
use Rattle.terms.specs.Later.{IsLater}
use Rattle.plans.specs.Proving.{ProvesAll}
use Rattle.restrict_tool.specs.Proofs.{agreement}
use Rattle.restrict_tool.specs.Restrictions.{stays_restricted}
use Rattle.restrict_tool.proofs.Agreeing.{agrees-at, met-at}
use Rattle.tool_parts.proofs.Proving.{proofs-length, length-mapped, mapped-at, proved-next, proved-end}
use Rattle.restrict_tool.proofs.finishing.agreements.Goals as goal

pub bounds-proved-i : goal.bounds-proved-i
bounds-proved-i c =
    let p = c.args.parts.now in
    let stays = stays_restricted p.definition.now p.restriction.now in
    subst (λ n. c.loop-i.i < n)
    (sym (proofs-length p.world.now (map stays (map call_of c.args.calls.now)) c.args.proved.now c.requires.proved ∙ (length-mapped stays (map call_of c.args.calls.now) ∙ length-mapped call_of c.args.calls.now)))
    c.loop-i-test.true

pub agreement_at-requires-clause-agrees : goal.agreement_at-requires-clause-agrees
agreement_at-requires-clause-agrees c =
    let p = c.args.parts.now in
    agrees-at c.args.next.now c.soundness.ensures p.definition.now p.function.now p.restriction.now (val_of p.undefined.now) c.requires.both c.calls_agree.ensures
    c.args.calls.now c.requires.calls c.loop-i.i c.index-calls-i.result c.loop-i-test.true c.index-calls-i.is

pub agreement_at-requires-clause-later : goal.agreement_at-requires-clause-later
agreement_at-requires-clause-later c =
    let p = c.args.parts.now in
    let met = met-at p.world.now p.definition.now p.restriction.now c.args.calls.now c.args.proved.now c.requires.proved c.loop-i.i c.index-calls-i.result c.index-proved-i.result c.loop-i-test.true c.index-calls-i.is c.index-proved-i.is in
    subst (λ W. IsLater W c.args.next.now) (sym met.0) c.requires.later

pub agreement_at-requires-clause-met : goal.agreement_at-requires-clause-met
agreement_at-requires-clause-met c =
    let p = c.args.parts.now in
    (met-at p.world.now p.definition.now p.restriction.now c.args.calls.now c.args.proved.now c.requires.proved c.loop-i.i c.index-calls-i.result c.index-proved-i.result c.loop-i-test.true c.index-calls-i.is c.index-proved-i.is).1

pub loop-i-preserved : goal.loop-i-preserved
loop-i-preserved c =
    let p = c.args.parts.now in
    let agrees = agreement p.definition.now p.function.now p.restriction.now in
    let calls = map call_of c.args.calls.now in
    let here = subst (λ n. c.loop-i.i < n) (sym (length-mapped call_of c.args.calls.now)) c.loop-i-test.true in
    proved-next c.args.next.now (map agrees calls) c.loop-i.proofs c.push.new.self c.loop-i.i (agrees (call_of c.index-calls-i.result)) c.in_ok-agreement_at.field-0
    (subst (λ n. c.loop-i.i < n) (sym (length-mapped agrees calls)) here)
    (mapped-at agrees calls c.loop-i.i (call_of c.index-calls-i.result) here (mapped-at call_of c.args.calls.now c.loop-i.i c.index-calls-i.result c.loop-i-test.true c.index-calls-i.is))
    c.loop-i.invariant c.in_ok-agreement_at.ensures.world c.in_ok-agreement_at.ensures.proves c.in_ok-push.ensures.ok

pub returns : goal.returns
returns c =
    let p = c.args.parts.now in
    let agrees = agreement p.definition.now p.function.now p.restriction.now in
    let calls = map call_of c.args.calls.now in
    let end : length c.args.calls.now ≤ c.loop-i.i = omega (arith, c.loop-i-test.false) in
    subst (λ cs. ProvesAll c.args.next.now (map agrees cs) c.loop-i.proofs) c.requires.calls
    (proved-end c.args.next.now (map agrees calls) c.loop-i.proofs c.loop-i.i
    (subst (λ n. n ≤ c.loop-i.i) (sym (length-mapped agrees calls ∙ length-mapped call_of c.args.calls.now)) end) c.loop-i.invariant)
