use Rattle.std.proofs.Common.{◌∙◌, ap}
use Rattle.std.specs.Option.{is_some}
use Rattle.worlds.specs.Words.{word_at}
use Rattle.worlds.proofs.Reserved.{is_some-map, word-reserved}
use Rattle.worlds.proofs.names.Words.is_reserved.Goals as goal

pub returns : goal.returns
returns c =
    let n = c.args.name.now in
    c.is_some.ensures ∙ is_some-map (λ b. b.now) c.get.result ∙ ap is_some c.get.ensures.value
    ∙ word-reserved n (word_at c.args.self.now n) (c.requires n)
