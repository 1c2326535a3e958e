-- The arguments of a call are less deep than the call.
use Rattle.std.specs.Prelude.{◌+◌, ◌≤◌, max, List, [], ◌∷◌}
use Rattle.std.proofs.Common.{arith}
use denote.Param.Weighed.{most}
use Rattle.terms.specs.Terms.{Tm, depth, depths, tms}
use Rattle.terms.specs.view.TermView.{tm_of}
use Rattle.terms.specs.declared.term.Node.{Node}
use Rattle.terms.specs.declared.term.Node.TheVariants.{Var, Quote, Call}
use Rattle.terms.specs.declared.term.Term.TheDeep.{deep-Node}

pub most_le-depths : (ts : List Tm) → most (λ t. depth t + 1) ts ≤ depths (tms ts)
most_le-depths [] = omega arith
most_le-depths (t ∷ ts) = omega (arith, most_le-depths ts)

pub parts_below : (n : Node) → max (deep-Node n) 0 ≤ depth (tm_of n)
parts_below (Var x) = omega arith
parts_below (Quote v) = omega arith
parts_below (Call f ts) = omega (arith, most_le-depths ts)
