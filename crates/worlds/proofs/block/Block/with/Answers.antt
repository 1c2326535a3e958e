use Rattle.std.proofs.Common.{◌≡◌, ◌∙◌, ap, subst, sym}
use Rattle.worlds.specs.view.EntryLists.{grown, empty_world}
use Rattle.worlds.specs.view.Indexes.{Answers}
use Rattle.worlds.proofs.Buckets.{copied}
use Rattle.worlds.proofs.Lookups.{grown-append}
use Rattle.worlds.proofs.block.Block.with.Goals as goal

all : (c : goal.In_ok-add_all) → grown c.in_ok-entries.entries empty_world ≡ grown c.args.newer.now (grown c.self.inside.entries empty_world)
all c = ap (λ es. grown es empty_world) c.in_ok-entries.ensures ∙ grown-append c.args.newer.now c.self.inside.entries empty_world

pub invariant_of-result : goal.invariant_of-result
invariant_of-result c =
    let before = grown c.self.inside.entries empty_world in
    subst (Answers c.add_all.new.self) (sym (all c))
    (c.in_ok-add_all.ensures before (copied c.self.inside.index c.in_ok-index.index before c.in_ok-index.ensures c.self.invariant))
