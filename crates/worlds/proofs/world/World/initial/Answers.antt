use Rattle.std.proofs.Common.{true, ap, subst, sym, ◌∙◌}
use Rattle.worlds.specs.Entries.{IsWorld}
use Rattle.worlds.specs.view.EntryLists.{grown}
use Rattle.worlds.proofs.Growth.{begun}
use Rattle.worlds.proofs.world.World.initial.Goals as goal

pub invariant_of-result : goal.invariant_of-result
invariant_of-result c =
    let world = c.in_ok-new.field-0.value in
    subst (λ W. IsWorld W 0 true) (sym (ap (λ es. grown es world) c.new-2.ensures ∙ c.in_ok-new.ensures.ok ∙ c.in_ok-sealed.ensures)) (begun c.worlds_grow.ensures)
