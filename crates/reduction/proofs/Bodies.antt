-- Definitions that are found in a world.
use Rattle.std.proofs.Common.{◌≡◌, ℕ, Bool, true, false, cond, List, [], ◌∷◌, bytes_eq, Some, subst}
use Rattle.lisp_data.specs.Values.{Name}
use Rattle.terms.specs.Definitions.{find}
use Rattle.terms.specs.Formed.{AllFormed}
use Rattle.terms.specs.Sound.{Sound}
use Rattle.terms.specs.Worlds.{World, Distinct}
use Rattle.terms.specs.declared.definition.Definition.{Definition}
use Rattle.terms.proofs.Args.{count-tms}

some_is : {A : Type 0} {x y : A} → Some x ≡ Some y → x ≡ y
some_is e = cc

found_distinct : (vars : List (Name × ℕ)) (ds : List Definition) → AllFormed vars ds → (f : Name) (d : Definition) → find ds f ≡ Some d → Distinct d.formals
found_distinct vars [] h f d e = absurd (cc)
found_distinct vars (c ∷ ds) h f d e = by_test (bytes_eq c.name f) e (found_distinct vars ds h.1 f d)
  where
    by_test : (b : Bool) → cond b (Some c) (find ds f) ≡ Some d → (find ds f ≡ Some d → Distinct d.formals) → Distinct d.formals
    by_test true e' ih = subst (λ x. Distinct x.formals) (some_is e') h.0.formals
    by_test false e' ih = ih e'

-- a definition of a sound world has distinct formals
pub find-distinct : (W : World) (f : Name) (d : Definition) → find W.functions.defs f ≡ Some d → Sound W → Distinct d.formals
find-distinct W f d e sound = found_distinct W.functions.vars W.functions.defs sound.formed f d e

pub ruleset bodies = (count-tms, find-distinct)
