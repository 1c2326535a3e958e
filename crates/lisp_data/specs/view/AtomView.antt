-- What the code finds of an atom.
use Rattle.std.specs.Prelude.{ℕ, ◌≤◌, List, map}
use Rattle.std.specs.Char.{to_ascii_uppercase}
use Rattle.lisp_data.specs.Atoms as a
use Rattle.lisp_data.specs.Atoms.{Leaf}
use Rattle.lisp_data.specs.declared.atom.Atom.{Atom}
use Rattle.lisp_data.specs.declared.atom.Atom.TheVariants as atoms

-- what was found of the atom r
abbrev pub leaf_of : List ℕ → Atom → Leaf
leaf_of r (atoms.Integer z) = a.Integer z
leaf_of r atoms.Symbol = a.Named (map to_ascii_uppercase r)
leaf_of r atoms.Point = a.Point
leaf_of r (atoms.Wrong code offset) = a.Wrong code offset

-- a fault lies at most n bytes after the atom's first byte
abbrev pub IsNear : ℕ → Atom → Type 0
IsNear n (atoms.Wrong code offset) = offset ≤ n
IsNear n _ = Unit {0}
