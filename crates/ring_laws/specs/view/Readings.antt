-- What the reading of a term says.
use Rattle.std.specs.Prelude.{◌<◌}
use Rattle.terms.specs.Terms.{Tm, depth}
use Rattle.ring_laws.specs.Expressions.{Expression, expression}
use Rattle.ring_laws.specs.Expressions as read
use Rattle.ring_laws.specs.declared.shape.Reading.{Reading}
use Rattle.ring_laws.specs.declared.shape.Reading.TheVariants.{Literal, Atom, Sum, Product, Negation}

-- what a term with this reading is
abbrev pub as_expression : Reading → Tm → Expression
as_expression (Literal n) t = read.Literal n
as_expression Atom t = read.Atom t
as_expression (Sum a b) t = read.Sum (expression a.now) (expression b.now)
as_expression (Product a b) t = read.Product (expression a.now) (expression b.now)
as_expression (Negation a) t = read.Negation (expression a.now)

-- the parts are less deep than the term
abbrev pub IsBelow : Reading → Tm → Type 0
IsBelow (Literal n) t = Unit {0}
IsBelow Atom t = Unit {0}
IsBelow (Sum a b) t = (depth a.now < depth t) × (depth b.now < depth t)
IsBelow (Product a b) t = (depth a.now < depth t) × (depth b.now < depth t)
IsBelow (Negation a) t = depth a.now < depth t
