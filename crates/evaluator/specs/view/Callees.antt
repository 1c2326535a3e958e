-- What names stand for in calls.
use Rattle.std.specs.Prelude.{◌≡◌, List, Option, Some, None, All, length}
use Rattle.lisp_data.specs.Values.{Name}
use Rattle.terms.specs.Primitives.{primitive}
use Rattle.terms.specs.declared.definition.Definition.{Definition}
use Rattle.terms.specs.Definitions.{find}
use Rattle.evaluator.specs.view.Table.{IsPrimitive}
use Rattle.evaluator.specs.declared.callees.Callee.{Callee}
use Rattle.evaluator.specs.declared.callees.Callee.TheVariants.{Primitive, Defined, Variable}
use Rattle.evaluator.specs.declared.callees.Known.{Known}
use Rattle.evaluator.specs.declared.callees.Callees.{Callees}

-- the name is that of a primitive, else the newest definition of the name, else neither
abbrev pub IsCallee : List Definition → Name → Callee → Type 0
IsCallee ds f (Primitive p) = IsPrimitive f (Some p)
IsCallee ds f (Defined d) = (primitive f ≡ None) × (find ds f ≡ Some d.now)
IsCallee ds f Variable = (primitive f ≡ None) × (find ds f ≡ None)

-- a slot is empty, or holds what its name stands for
abbrev pub IsKnown : List Definition → Option Known → Type 0
IsKnown ds None = Unit {0}
IsKnown ds (Some k) = IsCallee ds k.name.now k.callee

-- there are 64 slots, and what each holds is right among these definitions
abbrev pub Knows : List Definition → Callees → Type 0
Knows ds c = (length c.slots.items ≡ 64) × All (IsKnown ds) c.slots.items
