use Rattle.std.proofs.Common.{◌∙◌, ap}
use Rattle.worlds.specs.Entries.{instance_in}
use Rattle.worlds.specs.view.EntryLists.{last}
use Rattle.worlds.proofs.Lookups.{instance-alone}
use Rattle.worlds.proofs.block.Block.instance.Goals as goal

pub returns : goal.returns
returns c =
    let of = c.args.of.now in
    let pairs = c.args.pairs.now in
    c.instance.ensures ∙ ap (last (λ e. instance_in e of pairs)) c.at.ensures
    ∙ (c.self.invariant.at of).instances pairs ∙ instance-alone c.self.inside.entries of pairs ∙ ap (last (λ e. instance_in e of pairs)) c.self.view_is
