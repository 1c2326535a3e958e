use Rattle.std.proofs.Common.{◌≡◌, map, take}
use Rattle.terms.specs.Terms.{Var}
use Rattle.isodata_tool.proofs.formulas.variables.Given as goal

abbrev pub invariant-loop-name : goal.invariant-loop-name
invariant-loop-name l = l.terms ≡ map Var (take l.name-index l.name-items)
