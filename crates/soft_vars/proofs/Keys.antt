-- The names of a map.
use Rattle.terms.proofs.MapKeys.{HasDistinctNames-push}

pub ruleset keys = (HasDistinctNames-push)
