use Rattle.std.proofs.Common.{◌-◌, arith}
use Rattle.term_forms.proofs.ClauseLemmas.{step-taken}
use Rattle.term_forms.proofs.clauses.choose_all.Goals as goal

pub clauses-preserved : goal.clauses-preserved
clauses-preserved c = record {
  term = step-taken c.args.clauses.now (c.clauses.i - 1) c.clauses.i c.index-clauses-i.result c.clauses.term c.in_ok-term.term _ (omega arith) (omega arith) c.index-clauses-i.is c.clauses.invariant.term c.in_ok-term.ensures;
  inside = omega arith;
}
