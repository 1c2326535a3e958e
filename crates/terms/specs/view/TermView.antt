-- What a term's node is seen as.
use Rattle.lisp_data.specs.ValueView.{val_of}
use Rattle.terms.specs.Terms.{Tm, tms}
use Rattle.terms.specs.Terms as data_of
use Rattle.terms.specs.declared.term.Node.{Node}
use Rattle.terms.specs.declared.term.Node.TheVariants.{Var, Quote, Call}

-- one level of a term, without pointers
abbrev pub tm_of : Node → Tm
tm_of (Var x) = data_of.Var x
tm_of (Quote v) = data_of.Quote (val_of v)
tm_of (Call f ts) = data_of.Call f (tms ts)
