use Rattle.ring_laws.specs.Expressions.{expression}
use Rattle.ring_laws.proofs.Expansions.{sum_says, product_says, negation_says}
use Rattle.ring_laws.proofs.expansion.+expand.Goals as goal

pub returns-in_ok-b-in-Sum : goal.returns-in_ok-b-in-Sum
returns-in_ok-b-in-Sum t c =
    sum_says c.plus.result c.in_ok-a-in-Sum.a c.in_ok-b-in-Sum.b c.args.atoms.now.keys (expression c.in-Sum.a.now) (expression c.in-Sum.b.now) (expression c.args.term.now)
    c.in-Sum.ensures.value c.requires c.in_ok-a-in-Sum.ensures c.in_ok-b-in-Sum.ensures c.plus.ensures

pub returns-in_ok-b-in-Product : goal.returns-in_ok-b-in-Product
returns-in_ok-b-in-Product t c =
    product_says c.times.result c.in_ok-a-in-Product.a c.in_ok-b-in-Product.b c.args.atoms.now.keys (expression c.in-Product.a.now) (expression c.in-Product.b.now) (expression c.args.term.now)
    c.in-Product.ensures.value c.requires c.in_ok-a-in-Product.ensures c.in_ok-b-in-Product.ensures c.times.ensures

pub returns-in_ok-a-in-Negation : goal.returns-in_ok-a-in-Negation
returns-in_ok-a-in-Negation t c =
    negation_says c.negated.result c.in_ok-a-in-Negation.a c.args.atoms.now.keys (expression c.in-Negation.a.now) (expression c.args.term.now)
    c.in-Negation.ensures.value c.requires c.in_ok-a-in-Negation.ensures c.negated.ensures
