use Rattle.terms.specs.Dependence.{function_dependence}
use Rattle.soft_vars.specs.view.Walks.{after, ComesTo}
use Rattle.soft_vars.proofs.walk.Walk.run.Given as goal

abbrev pub invariant-loop-step : goal.invariant-loop-step
invariant-loop-step l = ComesTo l.world (after (function_dependence l.world) l.fn.self.left.items l.fn.self.found) l.walk.left.items l.walk
