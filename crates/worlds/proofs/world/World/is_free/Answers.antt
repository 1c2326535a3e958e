use Rattle.std.proofs.Common.{◌∙◌, ap, not, sym}
use Rattle.worlds.proofs.Meanings.{free_where}
use Rattle.worlds.proofs.world.World.is_free.Goals as goal

pub returns-then-not-is_reserved : goal.returns-then-not-is_reserved
returns-then-not-is_reserved c =
    free_where c.args.self.now c.args.name.now c.soundness.ensures c.given.result c.is_none.result c.given.ensures
    (ap not (sym c.is_reserved.ensures ∙ c.if-not-is_reserved.true)) c.is_none.ensures
