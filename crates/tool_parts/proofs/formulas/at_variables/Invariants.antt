use Rattle.std.proofs.Common.{◌≡◌, map, take}
use Rattle.terms.specs.Terms.{Var}
use Rattle.tool_parts.proofs.formulas.at_variables.Given as goal

abbrev pub invariant-loop-variable : goal.invariant-loop-variable
invariant-loop-variable l = l.args ≡ map Var (take l.variable-index l.variable-items)
