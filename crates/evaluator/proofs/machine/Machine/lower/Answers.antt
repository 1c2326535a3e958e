use Rattle.std.proofs.Common.{refl, ap, sym, ◌∙◌, subst, drop, length, ◌≤◌, arith}
use Rattle.evaluator.specs.view.Machines.{vals, Stacked}
use Rattle.evaluator.proofs.Steps.{stacked_top}
use Rattle.evaluator.proofs.Turns.{kept_below, kept_from, kept_length}
use Rattle.evaluator.proofs.machine.Machine.lower.Goals as goal

pub drain-requires-clause-start_le_end : goal.drain-requires-clause-start_le_end
drain-requires-clause-start_le_end c =
    let low = stacked_top 0 c.args.start c.args.self.now.frames.items c.requires.stacked in
    omega (arith, low.1, c.floor-floor.ensures)

pub returns-then-floor-start : goal.returns-then-floor-start
returns-then-floor-start c =
    let m = c.args.self.now in
    let low = stacked_top 0 c.args.start m.frames.items c.requires.stacked in
    record {
      frames = refl;
      calls = refl;
      callees = refl;
      below = refl;
      moved = ap (λ n. drop n (vals m)) c.if-floor-start.true;
      within = omega (arith, low.1, c.floor-floor.ensures, c.requires.start);
      stacked = subst (Stacked 0 m.frames.items) (sym c.floor-floor.ensures) low.0;
    }

pub returns : goal.returns
returns c =
    let m = c.args.self.now in
    let low = stacked_top 0 c.args.start m.frames.items c.requires.stacked in
    let us = c.drop.new.self.0.items in
    let kept = c.drop.ensures.items ∙ c.drain.ensures.kept in
    let le : c.floor-floor.result ≤ length m.values.items = omega (arith, low.1, c.floor-floor.ensures, c.requires.start) in
    record {
      frames = refl;
      calls = refl;
      callees = refl;
      below = kept_below m.values.items us c.floor-floor.result c.args.start le kept;
      moved = kept_from m.values.items us c.floor-floor.result c.args.start le kept;
      within = kept_length m.values.items us c.floor-floor.result c.args.start le kept;
      stacked = subst (Stacked 0 m.frames.items) (sym c.floor-floor.ensures) low.0;
    }
