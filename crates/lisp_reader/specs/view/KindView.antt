-- What the code finds at the start of the rest of a list.
use Rattle.lisp_reader.specs.Grammar as g
use Rattle.lisp_reader.specs.declared.read.Kind.{Kind}
use Rattle.lisp_reader.specs.declared.read.Kind.TheVariants.{Closes, Points, Item}

abbrev pub seen_kind : Kind → g.Kind
seen_kind Closes = g.Closes
seen_kind Points = g.Points
seen_kind Item = g.Item
