use Rattle.std.proofs.Common.{sym, subst}
use Rattle.events.specs.Laws.{ConditionsFit}
use Rattle.events.specs.view.Halts.{clauses_seen}
use Rattle.events.proofs.HandleLemmas.{admitted, suited, carried, own_proofs}
use Rattle.events.proofs.handle.prove_conditions.Goals as goal

pub prove_all-requires-clause-fits : goal.prove_all-requires-clause-fits
prove_all-requires-clause-fits c = subst (ConditionsFit c.args.world.now) (sym c.as_slice-conditions.ensures) c.requires.suited.fits

pub prove_all-requires-clause-ways : goal.prove_all-requires-clause-ways
prove_all-requires-clause-ways c =
    suited c.hints_fit.ensures c.reductions_prove.ensures c.args.world.now c.soundness.ensures (clauses_seen c.args.clauses.now) c.as_slice-conditions.result.now c.new.result c.in_ok-ways.ways c.as_slice.result.now
    c.new.ensures c.in_ok-ways.ensures c.as_slice.ensures

pub returns : goal.returns
returns c = record {
  passed = carried c.args.world.now c.args.plan.now (clauses_seen c.args.clauses.now) c.as_slice-conditions.result.now c.new.result c.in_ok-ways.ways c.as_slice.result.now
      c.as_slice-conditions.ensures c.in_ok-check_clauses.ensures c.new.ensures c.in_ok-ways.ensures c.as_slice.ensures c.in_ok-proved.ensures.accepted;
  admitted = admitted c.hints_fit.ensures c.reductions_prove.ensures c.args.world.now c.soundness.ensures c.args.plan.now c.requires.suited.lawful c.requires.suited.fits (clauses_seen c.args.clauses.now) c.as_slice-conditions.result.now c.new.result c.in_ok-ways.ways c.as_slice.result.now
      c.as_slice-conditions.ensures c.new.ensures c.in_ok-ways.ensures c.as_slice.ensures c.in_ok-proved.ensures.accepted;
  own = own_proofs c.args.world.now c.args.plan.now c.as_slice-conditions.result.now c.as_slice.result.now c.new-2.result c.in_ok-proved.proved
      c.as_slice-conditions.ensures c.new-2.ensures c.in_ok-proved.ensures;
}
