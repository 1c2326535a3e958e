use Rattle.std.proofs.Common.{sym, subst}
use Rattle.terms.specs.Worlds.{Holds}
use Rattle.terms.specs.declared.sequent.Sequent.{Sequent}
use Rattle.plans.proofs.entries.with_new_theorem.Goals as goal

pub with_theorem-requires-clause-holds : goal.with_theorem-requires-clause-holds
with_theorem-requires-clause-holds c = subst (λ (s : Sequent). Holds c.args.world.now.functions s) (sym c.in_ok-sequent.ensures) c.requires.new.holds
