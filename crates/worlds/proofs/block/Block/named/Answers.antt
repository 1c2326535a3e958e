use Rattle.std.proofs.Common.{subst}
use Rattle.worlds.specs.view.Indexes.{bucket_at}
use Rattle.worlds.specs.Named.{Gives}
use Rattle.worlds.proofs.Meanings.{gives-all}
use Rattle.worlds.proofs.block.Block.named.Goals as goal

pub returns : goal.returns
returns c =
    let n = c.args.name.now in
    let found = bucket_at c.self.inside.index n in
    subst (λ es. Gives n es c.named.result) c.self.view_is
    (gives-all n found c.self.inside.entries (c.self.invariant.at n) c.named.result
    (subst (λ es. Gives n es c.named.result) c.at.ensures c.named.ensures))
