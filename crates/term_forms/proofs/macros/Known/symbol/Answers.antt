use Rattle.term_forms.proofs.Words.{named}
use Rattle.term_forms.proofs.macros.Known.symbol.Goals as goal

pub named-requires : goal.named-requires
named-requires c = named c.args.self _ c.text.ensures
