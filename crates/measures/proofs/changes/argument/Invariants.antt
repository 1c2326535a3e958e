use Rattle.std.proofs.Common.{◌≡◌, drop}
use Rattle.terms.specs.Terms.{by_args, tms}
use Rattle.measures.proofs.changes.argument.Given as goal

abbrev pub invariant-loop-i : goal.invariant-loop-i
invariant-loop-i l = by_args (drop l.i l.formals) (tms (drop l.i l.args)) l.formal ≡ by_args l.formals (tms l.args) l.formal
