-- What the code's origins of instances are seen as.
use Rattle.std.specs.Prelude.{◌≡◌, Some}
use Rattle.terms.specs.Definitions.{find}
use Rattle.terms.specs.Worlds.{World}
use Rattle.events.specs.DefunInst as spec
use Rattle.events.specs.declared.kinds.defun_inst.Origin.{Origin}
use Rattle.events.specs.declared.kinds.defun_inst.Origin.TheVariants.{Function, Specification}

abbrev pub origin_seen : Origin → spec.Origin
origin_seen (Function definition) = spec.OfFunction definition.now
origin_seen (Specification specification) = spec.OfSpecification specification.now

-- a function is found in the world under its own name
abbrev pub IsFound : World → Origin → Type 0
IsFound W (Function definition) = find W.functions.defs definition.now.name ≡ Some definition.now
IsFound W (Specification specification) = Unit {0}
