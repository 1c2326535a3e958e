use Rattle.std.proofs.Common.{subst, Some}
use Rattle.worlds.specs.view.EntryLists.{grown, empty_world}
use Rattle.worlds.specs.Named.{Gives, Tells}
use Rattle.worlds.proofs.Meanings.{tells-newer, tells-older, tells-alone}
use Rattle.worlds.proofs.sealed.Sealed.named.Goals as goal

pub returns-in-Some : goal.returns-in-Some
returns-in-Some c =
    let n = c.args.name.now in
    let before = grown c.self.inside.older.value empty_world in
    subst (λ W. Tells W n (Some c.in-Some.named)) c.self.view_is
    (tells-newer n c.self.inside.newer before c.in-Some.named (subst (Gives n c.self.inside.newer) c.in-Some.is c.named.ensures))

pub returns-in-None : goal.returns-in-None
returns-in-None c =
    let n = c.args.name.now in
    let answer = c.named-in-None.result in
    let before = grown c.self.inside.older.value empty_world in
    let given = subst (λ es. Gives n es answer) c.deref.ensures c.named-in-None.ensures in
    subst (λ W. Tells W n answer) c.self.view_is
    (tells-older n c.self.inside.newer before (subst (Gives n c.self.inside.newer) c.in-None.is c.named.ensures) answer (tells-alone n c.self.inside.older.value answer given))
