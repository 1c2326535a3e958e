use Rattle.std.proofs.Common.{◌-◌, arith}
use Rattle.term_forms.proofs.Folds.{step-taken}
use Rattle.term_forms.proofs.macros.Fold.join_all.Goals as goal

pub parts-preserved : goal.parts-preserved
parts-preserved c = record {
  term = step-taken c.args.self c.args.parts.now (c.parts.i - 1) c.parts.i c.index-parts-i.result c.parts.term c.in_ok-term.term _ (omega arith) (omega arith) c.index-parts-i.is c.parts.invariant.term c.in_ok-term.ensures;
  inside = omega arith;
}
