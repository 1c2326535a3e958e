-- Terms in which variables are replaced.
use Rattle.terms.specs.TermFalls.{most_le-depths}
use Rattle.terms.proofs.Args.{depth-get_or}
use Rattle.term_forms.proofs.Sizes.{limited-within}
use Rattle.term_forms.proofs.Each.{each-more, each-refused, each-end}
use Rattle.term_forms.proofs.Growing.{parts-replaced, part-refused, parts-replaced}

pub ruleset replaced = (depth-get_or, most_le-depths, limited-within, each-more, each-refused, each-end, part-refused, parts-replaced)
