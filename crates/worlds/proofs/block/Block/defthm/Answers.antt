use Rattle.std.proofs.Common.{◌∙◌, ap}
use Rattle.worlds.specs.Entries.{defthm_of}
use Rattle.worlds.specs.view.EntryLists.{last}
use Rattle.worlds.proofs.Lookups.{defthm-alone}
use Rattle.worlds.proofs.block.Block.defthm.Goals as goal

pub returns-clause-value : goal.returns-clause-value
returns-clause-value c =
    let n = c.args.name.now in
    c.defthm.ensures.value ∙ ap (last (λ e. defthm_of e n)) c.at.ensures
    ∙ (c.self.invariant.at n).defthms ∙ defthm-alone c.self.inside.entries n ∙ ap (last (λ e. defthm_of e n)) c.self.view_is
