use Rattle.std.proofs.Common.{subst, sym, ◌∙◌}
use Rattle.worlds.specs.Entries.{IsWorld}
use Rattle.worlds.proofs.Growth.{with_iso}
use Rattle.worlds.proofs.world.World.with_iso.Goals as goal

pub with_entry-requires-clause-kept : goal.with_entry-requires-clause-kept
with_entry-requires-clause-kept c =
    let before = subst (λ W. IsWorld W c.self.inside.theorems c.self.inside.first_order) c.self.view_is c.self.invariant in
    with_iso c.worlds_grow.ensures c.args.self.now c.self.inside.theorems c.self.inside.first_order before c.args.iso (sym c.is_free.ensures ∙ c.if-not-is_free.false) c.requires.hold c.requires.first_order
