use Rattle.std.proofs.Common.{List, length, ap, subst, sym, arith, map, None}
use Rattle.lisp_data.specs.ValueView.{val_of}
use Rattle.evaluator.specs.Counted.{evaluated, told}
use Rattle.evaluator.specs.view.Machines.{waiting, act_of, resumed, Stacked}
use Rattle.evaluator.specs.declared.machine.Frame.{Frame}
use Rattle.evaluator.proofs.machine.run.Goals as goal

pub loop-next-init : goal.loop-next-init
unfolding evaluated
loop-next-init c =
    let ds = c.args.world.now.functions.defs in
    record {
      stands = record {
        stacked = subst (λ (fs : List Frame). Stacked 0 fs (length c.new-3.result.items)) (sym c.new-2.ensures.items) (omega arith);
        lies = omega arith;
        same = ap (λ (fs : List Frame). resumed (act_of ds) (map (waiting (map val_of c.new-3.result.items)) fs) (told ds c.args.term.now (λ x. None) 1000000)) c.new-2.ensures.items;
      };
      known = c.in_ok-new.ensures ds;
    }
