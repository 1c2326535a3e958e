use Rattle.std.proofs.Common.{◌++◌, ◌∙◌, ap}
use Rattle.worlds.proofs.Lookups.{grown-newer, grown-joined}
use Rattle.worlds.proofs.sealed.Sealed.with.Goals as goal

pub returns-then-self-gt1 : goal.returns-then-self-gt1
returns-then-self-gt1 c =
    grown-newer c.args.recent.now c.self.inside.newer c.in_ok-newer.newer c.self.inside.older.value c.in_ok-clone.field-0.value c.args.self.now
    c.in_ok-newer.ensures c.in_ok-clone.ensures.cases c.self.view_is

pub returns : goal.returns
returns c =
    let newer = c.in_ok-newer.newer in
    let older = c.in_ok-new.ensures.ok ∙ c.in_ok-older.ensures ∙ ap (λ es. es ++ c.deref.result.now) c.entries.ensures ∙ ap (λ es. newer ++ es) c.deref.ensures in
    grown-joined c.args.recent.now c.self.inside.newer newer c.in_ok-new-2.field-0 c.self.inside.older.value c.in_ok-new.field-0.value c.args.self.now
    c.in_ok-newer.ensures c.in_ok-new-2.ensures older c.self.view_is
