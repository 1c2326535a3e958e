use Rattle.std.proofs.Common.{sym, subst}
use Rattle.terms.specs.Links.{IsFirstOrder}
use Rattle.terms.specs.Sound.{AllHold, iso_conditions}
use Rattle.terms.specs.declared.entries.Iso.{Iso}
use Rattle.plans.proofs.entries.with_new_iso.Goals as goal

pub with_iso-requires-clause-hold : goal.with_iso-requires-clause-hold
with_iso-requires-clause-hold c = subst (λ (i : Iso). AllHold c.args.world.now.functions (iso_conditions i)) (sym c.in_ok-iso.ensures) c.requires.hold

pub with_iso-requires-clause-first_order : goal.with_iso-requires-clause-first_order
with_iso-requires-clause-first_order c = subst (λ (i : Iso). IsFirstOrder c.args.world.now i) (sym c.in_ok-iso.ensures) c.requires.first_order
