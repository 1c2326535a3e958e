use Rattle.std.proofs.Common.{◌∙◌, ap}
use Rattle.worlds.specs.Entries.{link_of}
use Rattle.worlds.specs.view.EntryLists.{first}
use Rattle.worlds.proofs.Lookups.{link-alone}
use Rattle.worlds.proofs.block.Block.link.Goals as goal

pub returns : goal.returns
returns c =
    let n = c.args.name.now in
    c.link.ensures ∙ ap (first (λ e. link_of e n)) c.at.ensures
    ∙ (c.self.invariant.at n).links ∙ link-alone c.self.inside.entries n ∙ ap (first (λ e. link_of e n)) c.self.view_is
