-- The kinds of steps that look at each part of a term.
use Rattle.std.specs.Prelude.{Bool, List, Option}
use Rattle.terms.specs.Terms.{Tm}
use Rattle.terms.specs.Worlds.{World}
use Rattle.reduction.specs.declared.found.Found.{Found}
use Rattle.reduction.specs.declared.kinds.How.{How}
use Rattle.reduction.specs.declared.kinds.Kind.{Kind}
use Rattle.reduction.specs.declared.kinds.Kind.TheVariants.{Decide, Ground, Rule, Definition, OnCall, Polynomials, Test}
use Rattle.reduction.specs.Finders.{decide, ground, definition, on_call, by_polynomials, test_of}
use Rattle.reduction.specs.Rules.{by_rules}

-- what a kind finds at a term, by the hypotheses that count, and by whether the term is a whole hypothesis
abbrev pub finds : World → How → Kind → List Tm → Bool → Tm → Option Found
finds W how Decide hs whole t = decide hs t
finds W how Ground hs whole t = ground W t
finds W how Rule hs whole t = by_rules how.rules hs t
finds W how Definition hs whole t = definition W how whole t
finds W how OnCall hs whole t = on_call hs t
finds W how Polynomials hs whole t = by_polynomials hs t
finds W how Test hs whole t = test_of t
