use Rattle.std.proofs.Common.{subst, Some}
use Rattle.worlds.specs.Named.{Gives, Tells}
use Rattle.worlds.proofs.Meanings.{tells-newer, tells-older}
use Rattle.worlds.proofs.world.World.given.Goals as goal

pub returns-in-Some : goal.returns-in-Some
returns-in-Some c =
    let n = c.args.name.now in
    subst (λ W. Tells W n (Some c.in-Some.named)) c.self.view_is
    (tells-newer n c.self.inside.recent c.self.inside.sealed.value c.in-Some.named (subst (Gives n c.self.inside.recent) c.in-Some.is c.named.ensures))

pub returns-in-None : goal.returns-in-None
returns-in-None c =
    let n = c.args.name.now in
    let told = subst (λ W. Tells W n c.named-in-None.result) c.deref.ensures c.named-in-None.ensures in
    subst (λ W. Tells W n c.named-in-None.result) c.self.view_is
    (tells-older n c.self.inside.recent c.self.inside.sealed.value (subst (Gives n c.self.inside.recent) c.in-None.is c.named.ensures) c.named-in-None.result told)
