use Rattle.std.proofs.Common.{◌≡◌, ◌++◌, drop}
use Rattle.terms.specs.Instances.{restricted}
use Rattle.soft_vars.proofs.instances.restricted.Given as goal

abbrev pub invariant-loop-pair : goal.invariant-loop-pair
invariant-loop-pair l = l.own ++ restricted (drop l.pair-index l.pair-items) l.variables ≡ restricted l.pairs l.variables
