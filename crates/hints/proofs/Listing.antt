-- Lists that are made item by item.
use Rattle.std.proofs.Common.{◌≡◌, ◌&&◌, ◌<◌, ◌+◌, ℕ, Bool, true, List, ◌∷◌, length, get_or, map, drop, append_assoc, append-nil, subst, ap}
use Rattle.std.specs.List.{list_all}
use Rattle.std.proofs.lemmas.Bool.{and_parts}
use Rattle.std.proofs.lemmas.List.{drop_all, drop_more}

pub ruleset lists = (drop_more, drop_all, append_assoc, append-nil)
