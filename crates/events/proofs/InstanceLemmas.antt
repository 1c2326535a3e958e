-- What instances are made of.
use Rattle.std.proofs.Common.{◌≡◌, List, Some, sym, subst}
use Rattle.lisp_data.specs.Values.{Name}
use Rattle.terms.specs.Definitions.{find}
use Rattle.terms.specs.declared.definition.Definition.{Definition}
use Rattle.terms.proofs.Found.{found_name}

-- what is found has the name under which it is found
pub found-self : (ds : List Definition) (f : Name) (d : Definition) → find ds f ≡ Some d → find ds d.name ≡ Some d
found-self ds f d e = subst (λ n. find ds n ≡ Some d) (sym (found_name ds f d e)) e

pub ruleset origins = (found-self)
