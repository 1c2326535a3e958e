-- Terms under a map, argument by argument.
use Rattle.std.proofs.Common.{◌≡◌, List, [], ◌∷◌, map, refl, ap}
use Rattle.std.proofs.lemmas.List.{take_all}
use Rattle.lisp_data.specs.Values.{Name}
use Rattle.terms.specs.Terms.{Tm, More, tms}
use Rattle.terms.proofs.Args.{args}
use Rattle.terms.specs.Maps.{NamePairs, rename, rename_all}

-- the arguments under the map, one by one
pub tms-map_rename : (m : NamePairs) (ts : List Tm) → tms (map (rename m) ts) ≡ rename_all m (tms ts)
tms-map_rename m [] = refl
tms-map_rename m (t ∷ ts) = ap (λ r. More (rename m t) r) (tms-map_rename m ts)

pub ruleset renaming = (args, tms-map_rename)
