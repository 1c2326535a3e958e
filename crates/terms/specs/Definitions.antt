-- Definitions, and what function variables stand for.
use Rattle.std.specs.Prelude.{cond, List, [], ◌∷◌, bytes_eq, Option, Some, None}
use Rattle.lisp_data.specs.Values.{Name}
use Rattle.terms.specs.declared.definition.Definition.{Definition}

-- the first definition of a name; the list has the newest first
abbrev pub find : List Definition → Name → Option Definition
find [] f = None
find (d ∷ ds) f = cond (bytes_eq d.name f) (Some d) (find ds f)

-- An interpretation gives entries to function variables: a name among some definitions, the primitives and
-- the variables of an inner interpretation. It is a finite tree.
pub data Interp : Type 0 where
  Empty : Interp
  Entry : (variable : Name) (defs : List Definition) (name : Name) (inner rest : Interp) → Interp
